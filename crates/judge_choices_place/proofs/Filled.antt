-- The accepting states' choices, place by place, and all choices together.
use mathlib.Core.Path.{◌≡◌, sym, ◌∙◌, ap}
use mathlib.Core.Logic.{inr, by_cases}
use mathlib.Core.Bool.{◌&&◌, cond, and-true}
use mathlib.Core.List.{List, ◌++◌}
use Prim.Native.Nat.{ℕ, ◌+◌, ◌-◌, ◌*◌, ◌/◌, ◌%◌, ◌≤◌, ◌<◌}
use native.Mathlib.Omega.{arith}
use native.Mathlib.Decide.{ℕ_discrete, dec_lt}
use native.Mathlib.Nat.{mod-lt, div-lt_iff_lt-mul, div-add-mod', zero-add}
use lib.Arith.{digits_lt}
use lib.ListN.{length, get_or, drop, replicate, length-append, length-replicate, length-drop, get_or-replicate, get_or-append}
use lib.Seq.{ext_get_or, get_or-append-add}
use Rattle.sets.specs.Masks.{bit}
use Rattle.sets.proofs.Bools.{bif}
use Rattle.sets.proofs.Lists.{length-tabulate, tabulate-at}
use Rattle.theory.specs.Rule.{Rule, entry, satisfies}
use Rattle.theory.specs.Passing.{Passing}
use Rattle.theory.specs.Word.{places, next_place_lem, letter_at_lem, WordOver}
use Rattle.theory.specs.Truth.{truth_masks}
use Rattle.theory_laws.proofs.Satisfies.{satisfies-ext}
use Rattle.theory_laws.proofs.Truth.{truth-exact}
use Rattle.judge_choices_spec.specs.ChoicesComputed.{aim_of, choice_at, choices_by, choices_of}
use Rattle.judge_choices_spec.specs.Rounds.{Tried, Started, Ended}
use Rattle.judge_choices_place.proofs.Meaning.{aim-bit, mix-same, choice-accepting, choice-false}
use Rattle.judge_choices_place.proofs.Rounds.{apart}

module _ (r : Rule) (P : Passing r) (lead cycle : List ℕ) (W : WordOver r.s lead cycle) where
  abbrev T : List ℕ
  T = truth_masks r lead cycle

  abbrev L : ℕ
  L = places lead cycle

  -- one place more
  module _ (k states : ℕ) (old mid new : List ℕ) (found : ℕ) (l : k < L)
      (which : (q : ℕ) → q < r.n → bit states q ≡ (bit (get_or T k 0) q && bit r.accepting q))
      (R : Started r lead cycle T k old mid)
      (F : Tried r (letter_at_lem lead cycle k) (get_or T (next_place_lem lead cycle k) 0) (get_or T (next_place_lem lead cycle k) 0) states (k * r.n) mid new found) where
    -- a true accepting state has a clause
    those : (q : ℕ) → q < r.n → bit found q ≡ (bit (get_or T k 0) q && bit r.accepting q)
    those q j =
        let t = get_or T (next_place_lem lead cycle k) 0 in
        let s : satisfies r.n (bit (aim_of r t t q)) (entry r q (letter_at_lem lead cycle k)) ≡ bit (get_or T k 0) q
        = satisfies-ext r.n _ _ (λ x i. aim-bit r t t q x i ∙ mix-same r P lead cycle W q (bit t) x) (entry r q (letter_at_lem lead cycle k))
        ∙ sym (truth-exact r P lead cycle W.repeats k q l j) in
        F.those q ∙ rw (which q j, s) (bif (bit (get_or T k 0) q) (λ v. rw v (and-true (bit r.accepting q))) (λ v. rw v))

    here : (q : ℕ) → q < r.n → get_or new (k * r.n + q) 0 ≡ cond (bit (get_or T k 0) q && bit r.accepting q) (choice_at r lead cycle T k q) (get_or old (k * r.n + q) 0)
    here q j =
        F.here q j ∙ rw (those q j, R.rest (k * r.n + q) (omega arith))
        (bif (bit (get_or T k 0) q)
        (λ t. bif (bit r.accepting q) (λ a. rw (t, a) (sym (choice-accepting r P lead cycle W k q t a))) (λ a. rw (t, a)))
        (λ t. rw t))

    pub started-step : Started r lead cycle T (k + 1) old new
    started-step = record {
      long = F.long ∙ R.long;
      done = λ p q i j. by_cases (ℕ_discrete p k) (λ e. rw e (here q j))
          (λ n. F.others (p * r.n + q) (apart r lead cycle T k p q j n) ∙ R.done p q (omega arith) j);
      rest = λ i j. let e : (k + 1) * r.n ≡ k * r.n + r.n = omega arith in F.others i (inr (omega arith)) ∙ R.rest i (omega arith);
    }

  -- the accepting and the rejecting states together, over bytes that are 255
  module _ (old xs ys zs : List ℕ) (room : L * r.n ≤ length old) (clear : xs ≡ replicate (L * r.n) 255 ++ drop (L * r.n) old)
      (S : Started r lead cycle T L xs ys) (E : Ended r lead cycle T ys zs) where
    blank : (i : ℕ) → i < L * r.n → get_or xs i 0 ≡ 255
    blank i l = rw clear (get_or-append (replicate (L * r.n) 255) (drop (L * r.n) old) 0 i (rw (length-replicate {A = ℕ} (L * r.n) 255) l) ∙ get_or-replicate (L * r.n) i 255 0 l)

    byte : (p q : ℕ) → p < L → q < r.n → get_or zs (p * r.n + q) 0 ≡ choice_at r lead cycle T p q
    byte p q l k =
        E.at p q l k ∙ rw (S.done p q l k, blank (p * r.n + q) (digits_lt l k))
        (bif (bit (get_or T p 0) q) (λ t. bif (bit r.accepting q) (λ a. rw (t, a)) (λ a. rw (t, a)))
        (λ t. rw t (sym (choice-false r P lead cycle W p q t))))

    long : length zs ≡ length old
    long = let e = ap length clear ∙ length-append (replicate (L * r.n) 255) (drop (L * r.n) old) in
        let f = length-replicate {A = ℕ} (L * r.n) 255 in let g = length-drop (L * r.n) old in let h = E.long in let i = S.long in omega arith

    written-long : length (choices_of r lead cycle ++ drop (L * r.n) old) ≡ length old
    unfolding choices_by
    written-long = let e = length-append (choices_of r lead cycle) (drop (L * r.n) old) in
        let f = length-tabulate (L * r.n) (λ i. choice_at r lead cycle T (i / r.n) (i % r.n)) 0 in let g = length-drop (L * r.n) old in omega arith

    past : (front : List ℕ) (i : ℕ) → length front ≡ L * r.n → L * r.n ≤ i → get_or (front ++ drop (L * r.n) old) i 0 ≡ get_or (drop (L * r.n) old) (i - L * r.n) 0
    past front i e k = let x : i ≡ length front + (i - L * r.n) = omega arith in
        ap (λ (j : ℕ). get_or (front ++ drop (L * r.n) old) j 0) x ∙ get_or-append-add front (drop (L * r.n) old) (i - L * r.n) 0

    pub all-filled : zs ≡ choices_of r lead cycle ++ drop (L * r.n) old
    unfolding choices_by
    all-filled = ext_get_or 0 zs _ (long ∙ sym written-long) at
      where
        size : length (choices_of r lead cycle) ≡ L * r.n
        size = length-tabulate (L * r.n) (λ i. choice_at r lead cycle T (i / r.n) (i % r.n)) 0

        at : (i : ℕ) → i < length zs → get_or zs i 0 ≡ get_or (choices_of r lead cycle ++ drop (L * r.n) old) i 0
        at i l =
            by_cases (dec_lt i (L * r.n))
            (λ k. let e : i / r.n * r.n + i % r.n ≡ i = div-add-mod' i r.n in
            ap (λ (x : ℕ). get_or zs x 0) (sym e) ∙ byte (i / r.n) (i % r.n) ((div-lt_iff_lt-mul P.formed.some_state).1 k) (mod-lt i P.formed.some_state)
            ∙ sym (get_or-append (choices_of r lead cycle) (drop (L * r.n) old) 0 i (omega (arith, size)) ∙ tabulate-at (L * r.n) _ 0 i k ∙ rw (zero-add i)))
            (λ k. E.rest i (omega arith) ∙ S.rest i (omega arith) ∙ ap (λ (ys : List ℕ). get_or ys i 0) clear
            ∙ past (replicate (L * r.n) 255) i (length-replicate {A = ℕ} (L * r.n) 255) (omega arith) ∙ sym (past (choices_of r lead cycle) i size (omega arith)))
