-- The computed choices are those by plans, and they are a plan that accepts.
use mathlib.Core.Path.{◌≡◌, refl, sym, ◌∙◌, ap}
use mathlib.Core.Logic.{⊎_elim}
use mathlib.Core.Bool.{Bool, true, false, ◌&&◌, not}
use mathlib.Core.List.Memᴰ
use mathlib.Core.List.{List, ◌++◌, Memᴰ}
use Prim.Native.Nat.{ℕ, zero, suc, ◌+◌, ◌-◌, ◌*◌, ◌/◌, ◌%◌, ◌<◌}
use native.Mathlib.Omega.{arith}
use native.Mathlib.Nat.{zero-add}
use lib.Dec.{eqb, leb}
use lib.Arith.{digits_div, digits_mod, digits_lt}
use lib.ListN.{length, get_or, length-append, get_or-append}
use borrow.Author.Tests.{eqb-true, leb-true, leb-false, le-leb}
use Rattle.sets.specs.Tests.{Set}
use Rattle.sets.specs.Masks.{bit, inside}
use Rattle.sets.proofs.Bools.{bif, clash, iff, and_i, and_l, and_r, not_t}
use Rattle.sets.proofs.Bits.{bit-none}
use Rattle.sets.proofs.Masks.{bit_mask}
use Rattle.sets.proofs.Tests.{first-leb}
use Rattle.sets.proofs.Lists.{mem-at, tabulate-at, length-tabulate}
use Rattle.sets.proofs.Members.{inside-at, inside-all, inside-trim}
use Rattle.theory.specs.Rule.{Rule, entry, satisfies}
use Rattle.theory.specs.Automaton.{Automaton, automaton}
use Rattle.theory.specs.Layered.{Layered}
use Rattle.theory.specs.Core.{is_open, mix}
use Rattle.theory.specs.Passing.{Passing}
use Rattle.theory.specs.Plan.{Accepts, AcceptsFrom}
use Rattle.theory.specs.Word.{places, next_place_lem, letter_at_lem, WordOver}
use Rattle.theory.specs.Truth.{truth_masks}
use Rattle.theory_laws.proofs.Certified.{discharged}
use Rattle.theory_laws.proofs.Distance.{discharged-up}
use Rattle.theory_laws.proofs.FixedPoint.{exact, near-open}
use Rattle.theory_laws.proofs.Places.{next-place-low}
use Rattle.theory_laws.proofs.Pursuit.{open-kind, mix-in, mix-out, settled-kind}
use Rattle.theory_laws.proofs.PlanOfSet.{δ, δ-leb, aim, Good, Aimed, aim-sat}
use Rattle.theory_laws.proofs.Satisfies.{satisfies-ext}
use Rattle.theory_laws.proofs.Truth.{heights, certain, truth-certain, truth-accepts}
use Rattle.rule_entries.proofs.Clauses.{met-first, satisfies-wide}
use Rattle.rule_entries.proofs.Entries.{entry-states}
use Rattle.judge_choices_spec.specs.ChoicesComputed.{no_choice, number_of, aim_of, nearer, near_at, distance_at, aim_at, choice_at, choices_by, choices_of}
use Rattle.judge_choices_spec.specs.Choice.{plan_of, Written}
use Rattle.judge_choices_spec.specs.Rounds.{met_number}
use Rattle.judge_choices_place.proofs.Leaving.{plan-of, inside-suits, suits-inside}

-- a set by the states inside and outside q's component
pub aim-bit : (r : Rule) (all near q x : ℕ) → x < r.n → bit (aim_of r all near q) x ≡ mix (automaton r) q (bit all) (bit near) x
unfolding aim_of
aim-bit r all near q x l = bit_mask r.n _ x l

-- every letter is one of the rule's
pub letter-low : (s : ℕ) (lead cycle : List ℕ) → WordOver s lead cycle → (p : ℕ) → p < places lead cycle → letter_at_lem lead cycle p < s
unfolding letter_at_lem
letter-low s lead cycle W p l =
    ⊎_elim (W.lead_letters _) (W.cycle_letters _) (Memᴰ.append_cases lead (mem-at (lead ++ cycle) p (rw length-append l)))

module _ (r : Rule) (P : Passing r) (lead cycle : List ℕ) (W : WordOver r.s lead cycle) where
  abbrev A : Automaton
  A = automaton r

  abbrev L : ℕ
  L = places lead cycle

  abbrev next : ℕ → ℕ
  next = next_place_lem lead cycle

  abbrev letter : ℕ → ℕ
  letter = letter_at_lem lead cycle

  abbrev T : List ℕ
  T = truth_masks r lead cycle

  abbrev H : Layered A
  H = heights r P

  abbrev low : (p : ℕ) → p < L → next p < L
  low = next-place-low lead cycle W.repeats

  -- the true pairs
  abbrev S : ℕ → Set
  S = certain r P lead cycle W.repeats

  abbrev right : (p q : ℕ) → p < L → q < A.n → S p q ≡ satisfies A.n (S (next p)) (A.entry q (letter p))
  right = exact A H L next letter low

  abbrev soon : (p q : ℕ) → q < A.n → is_open A (S p) q ≡ true → discharged A next letter S p (L * A.n) q ≡ true
  soon = near-open A H L next letter low

  true-is : (p q : ℕ) → p < L → q < r.n → bit (get_or T p 0) q ≡ S p q
  true-is p q l k = truth-certain r P lead cycle W.repeats p q l k

  sound : (q p : ℕ) → q < A.n → p < L → Accepts A next letter q p → S p q ≡ true
  unfolding automaton
  sound q p l k a = sym (true-is p q k l) ∙ (truth-accepts r P lead cycle W.repeats p q k l).1 a

  -- the states near within d are those discharged within d rounds
  near-is : (d p q : ℕ) → p < L → q < r.n → bit r.accepting q ≡ false → bit (near_at r lead cycle T d p) q ≡ discharged A next letter S p d q
  unfolding near_at nearer discharged automaton
  near-is zero p q l k a = bit-none q
  near-is (suc d) p q l k a =
      let m = near_at r lead cycle T d (next p) in
      let t = get_or T (next p) 0 in
      let e : satisfies r.n (bit (aim_of r t m q)) (entry r q (letter p)) ≡ satisfies r.n (mix A q (S (next p)) (discharged A next letter S (next p) d)) (entry r q (letter p))
      = satisfies-ext r.n _ _ (λ x i. aim-bit r t m q x i ∙ (bif (eqb (A.component x) (A.component q))
      (λ c. mix-in A q _ _ x c ∙ near-is d (next p) x (low p l) i (H.pure x q i k (eqb-true _ _ c) ∙ a) ∙ sym (mix-in A q _ _ x c))
      (λ c. mix-out A q _ _ x c ∙ true-is (next p) x (low p l) i ∙ sym (mix-out A q _ _ x c)))) (entry r q (letter p)) in
      bit_mask r.n _ q k
      ∙ rw (a, true-is p q l k, open-kind A false (S p) q a, settled-kind A false (S (next p)) (discharged A next letter S (next p) d) q (entry r q (letter p)) a) (ap (λ (b : Bool). S p q && b) e)

  abbrev delta : ℕ → ℕ → ℕ
  delta = δ A H L next letter low S right (L * A.n) soon

  abbrev aims : ℕ → ℕ → Set
  aims = aim A H L next letter low S right (L * A.n) soon

  abbrev True : ℕ → ℕ → Type 0
  True = Good A H L next letter low S right (L * A.n) soon

  -- the distance is the number of rounds
  pub distance-leb : (p q : ℕ) → True q p → bit r.accepting q ≡ false → (d : ℕ) → leb (delta p q) d ≡ bit (near_at r lead cycle T d p) q
  unfolding automaton
  distance-leb p q g a d = δ-leb A H L next letter low S right (L * A.n) soon p q g.below (open-kind A false (S p) q a ∙ g.true-in) d ∙ sym (near-is d p q g.place g.below a)

  pub distance_is : (p q : ℕ) → True q p → bit r.accepting q ≡ false → distance_at r lead cycle T p q ≡ delta p q
  unfolding distance_at automaton
  distance_is p q g a =
      let same = distance-leb p q g a in
      let all : bit (near_at r lead cycle T (L * r.n) p) q ≡ true = near-is (L * r.n) p q g.place g.below a ∙ soon p q g.below (open-kind A false (S p) q a ∙ g.true-in) in
      let e : (d : ℕ) → leb (distance_at r lead cycle T p q) d ≡ leb (delta p q) d
      = λ d. first-leb (L * r.n) (λ i. bit (near_at r lead cycle T i p) q)
      (λ i j h v. let k = leb-true (delta p q) i (same i ∙ v) in sym (same j) ∙ le-leb (delta p q) j (omega arith)) all d ∙ sym (same d) in
      let x = leb-true (delta p q) (distance_at r lead cycle T p q) (sym (e (distance_at r lead cycle T p q)) ∙ le-leb (distance_at r lead cycle T p q) (distance_at r lead cycle T p q) (omega arith)) in
      omega (arith, leb-true (distance_at r lead cycle T p q) (delta p q) (e (delta p q) ∙ le-leb (delta p q) (delta p q) (omega arith)))

  -- a state that is near is true and rejecting
  near-true : (d p q : ℕ) → q < r.n → bit (near_at r lead cycle T d p) q ≡ true → (bit (get_or T p 0) q ≡ true) × (bit r.accepting q ≡ false)
  unfolding near_at nearer
  near-true zero p q l e = clash e (bit-none q)
  near-true (suc d) p q l e =
      let x = sym (bit_mask r.n _ q l) ∙ e in
      (and_l (bit (get_or T p 0) q) _ x, not_t (bit r.accepting q) (and_l (not (bit r.accepting q)) _ (and_r (bit (get_or T p 0) q) _ x)))

  true-pair : (q p : ℕ) → p < L → q < r.n → bit (get_or T p 0) q ≡ true → True q p
  unfolding automaton
  true-pair q p l k t = record { below = k; place = l; true-in = sym (true-is p q l k) ∙ t }

  pub near-grows : (d p q : ℕ) → p < L → q < r.n → bit (near_at r lead cycle T d p) q ≡ true → bit (near_at r lead cycle T (suc d) p) q ≡ true
  unfolding automaton
  near-grows d p q l k t =
      let a = (near-true d p q k t).1 in
      near-is (suc d) p q l k a ∙ discharged-up A next letter S d p q k (sym (near-is d p q l k a) ∙ t)

  -- after all rounds the true rejecting states are near
  pub near-all : (p q : ℕ) → p < L → q < r.n → bit (near_at r lead cycle T (L * r.n) p) q ≡ (bit (get_or T p 0) q && not (bit r.accepting q))
  unfolding automaton
  near-all p q l k =
      iff _ _
      (λ t. let x = near-true (L * r.n) p q k t in and_i x.0 (ap not x.1))
      (λ t. let a = not_t (bit r.accepting q) (and_r (bit (get_or T p 0) q) _ t) in
      near-is (L * r.n) p q l k a ∙ soon p q k (open-kind A false (S p) q a ∙ sym (true-is p q l k) ∙ and_l (bit (get_or T p 0) q) _ t))

  -- the choice of a rejecting state is that of the round in which it comes near
  pub choice-now : (d p q : ℕ) → p < L → q < r.n → bit (near_at r lead cycle T d p) q ≡ false → bit (near_at r lead cycle T (suc d) p) q ≡ true
      → choice_at r lead cycle T p q ≡ met_number r (letter p) (get_or T (next p) 0) (near_at r lead cycle T d (next p)) q
  unfolding choice_at aim_at
  choice-now d p q l k e t =
      let x = near-true (suc d) p q k t in
      let g = true-pair q p l k x.0 in
      let i = leb-true (delta p q) (suc d) (distance-leb p q g x.1 (suc d) ∙ t) in
      let n : delta p q - 1 ≡ d = omega (arith, leb-false (delta p q) d (distance-leb p q g x.1 d ∙ e)) in
      rw (x.0, x.1, distance_is p q g x.1, n)

  -- that of an accepting state needs no distance
  pub choice-accepting : (p q : ℕ) → bit (get_or T p 0) q ≡ true → bit r.accepting q ≡ true → choice_at r lead cycle T p q ≡ met_number r (letter p) (get_or T (next p) 0) (get_or T (next p) 0) q
  unfolding choice_at aim_at
  choice-accepting p q t a = rw (t, a)

  pub choice-false : (p q : ℕ) → bit (get_or T p 0) q ≡ false → choice_at r lead cycle T p q ≡ no_choice
  unfolding choice_at
  choice-false p q t = rw t

  pub mix-same : (q : ℕ) (X : Set) (x : ℕ) → mix A q X X x ≡ X x
  mix-same q X x = bif (eqb (A.component x) (A.component q)) (mix-in A q X X x) (mix-out A q X X x)

  -- what the clause is chosen from
  aim-is : (q p x : ℕ) → True q p → x < r.n → bit (aim_at r lead cycle T p q) x ≡ aims q p x
  unfolding aim_at aim automaton
  aim-is q p x g i =
      let t = get_or T (next p) 0 in
      bif (bit r.accepting q)
      (λ a. rw a (aim-bit r t t q x i ∙ mix-same q (bit t) x ∙ true-is (next p) x (low p g.place) i))
      (λ a. let e = distance_is p q g a in
      rw (a, e) (aim-bit r t (near_at r lead cycle T (delta p q - 1) (next p)) q x i ∙ (bif (eqb (A.component x) (A.component q))
      (λ c. mix-in A q _ _ x c ∙ near-is (delta p q - 1) (next p) x (low p g.place) i (H.pure x q i g.below (eqb-true _ _ c) ∙ a) ∙ sym (mix-in A q _ _ x c))
      (λ c. mix-out A q _ _ x c ∙ true-is (next p) x (low p g.place) i ∙ sym (mix-out A q _ _ x c)))))

  -- the choice of a true pair: listed, inside, and the first that is
  record Picked (q p : ℕ) : Type 0 where
    listed : choice_at r lead cycle T p q < length (entry r q (letter p))
    met : inside r.n (aims q p) (get_or (entry r q (letter p)) (choice_at r lead cycle T p q) 0) ≡ true
    first : (j : ℕ) → j < choice_at r lead cycle T p q → inside r.n (aims q p) (get_or (entry r q (letter p)) j 0) ≡ false

  -- the clause test, on eight bits and on the rule's states
  inside_is : (q p : ℕ) → True q p → (c : ℕ) → Memᴰ c (entry r q (letter p)) → inside 8 (bit (aim_at r lead cycle T p q)) c ≡ inside r.n (aims q p) c
  unfolding automaton
  inside_is q p g c m =
      inside-trim r.n 8 _ c P.formed.few_states (entry-states r P.formed q (letter p) g.below (letter-low r.s lead cycle W p g.place) c m)
      ∙ iff _ _
      (λ t. inside-all r.n _ c (λ x l b. sym (aim-is q p x g l) ∙ inside-at r.n _ c t x l b))
      (λ t. inside-all r.n _ c (λ x l b. aim-is q p x g l ∙ inside-at r.n _ c t x l b))

  picked : (q p : ℕ) → True q p → Picked q p
  unfolding choice_at number_of automaton
  picked q p g =
      let e = entry r q (letter p) in
      let k = letter-low r.s lead cycle W p g.place in
      let sat : satisfies 8 (bit (aim_at r lead cycle T p q)) e ≡ true
      = satisfies-wide 8 r.n _ P.formed.few_states e (entry-states r P.formed q (letter p) g.below k)
      ∙ satisfies-ext r.n _ _ (λ x l. aim-is q p x g l) e
      ∙ aim-sat A H L next letter low S right (L * A.n) soon q p g in
      let m = met-first (aim_at r lead cycle T p q) e 0 sat in
      let t : bit (get_or T p 0) q ≡ true = true-is p q g.place g.below ∙ g.true-in in
      let n : choice_at r lead cycle T p q ≡ m.number = rw t (ap number_of m.found ∙ zero-add m.number) in
      record {
        listed = rw n m.listed;
        met = rw n (sym (inside_is q p g _ (mem-at e m.number m.listed)) ∙ m.met);
        first = λ j l. let h = m.listed in let i : j < m.number = rw n at l in sym (inside_is q p g _ (mem-at e j (omega arith))) ∙ m.first j i;
      }

  -- ---- the bytes
  byte_at : (rest : List ℕ) (q p : ℕ) → q < r.n → p < L → get_or (choices_of r lead cycle ++ rest) (p * r.n + q) 0 ≡ choice_at r lead cycle T p q
  unfolding choices_by
  byte_at rest q p l k =
      let i = digits_lt k l in
      let z = length-tabulate (L * r.n) (λ i. choice_at r lead cycle T (i / r.n) (i % r.n)) 0 in
      get_or-append (choices_of r lead cycle) rest 0 (p * r.n + q) (omega arith)
      ∙ tabulate-at (L * r.n) _ 0 (p * r.n + q) i ∙ rw (zero-add (p * r.n + q), digits_div p l, digits_mod p l)

  module _ (rest : List ℕ) where
    abbrev written : List ℕ
    written = choices_of r lead cycle ++ rest

    abbrev plan : ℕ → ℕ → ℕ
    plan = plan_of r lead cycle written

    plan-is : (q p : ℕ) → q < r.n → p < L → plan q p ≡ get_or (entry r q (letter p)) (choice_at r lead cycle T p q) 0
    plan-is q p l k = ap (λ (j : ℕ). get_or (entry r q (letter p)) j 0) (byte_at rest q p l k)

    aimed : Aimed A H L next letter low S right (L * A.n) soon plan
    unfolding automaton
    aimed = record {
      listed = λ q p g. rw (plan-is q p g.below g.place) (mem-at _ _ (picked q p g).listed);
      within = λ q p x g l b. inside-at r.n _ _ (picked q p g).met x l (rw (plan-is q p g.below g.place) at b);
    }

    false-byte : (q p : ℕ) → q < r.n → p < L → (AcceptsFrom r lead cycle q p → ⊥) → choice_at r lead cycle T p q ≡ 255
    unfolding choice_at
    false-byte q p l k v = bif (bit (get_or T p 0) q) (λ t. absurd (v ((truth-accepts r P lead cycle W.repeats p q k l).0 t))) (λ t. rw t)

    pub meaning : Written r lead cycle written
    unfolding automaton plan-of
    meaning = record {
      true_pairs = λ q p l k v.
          let g : True q p = record { below = l; place = k; true-in = sound q p l k v } in
          let h = picked q p g in
          rw (byte_at rest q p l k) (record {
            listed = h.listed;
            suits = inside-suits A H L next letter low S right (L * A.n) soon sound plan aimed q p g _ h.met;
            first = λ j i x. clash (suits-inside A H L next letter low S right (L * A.n) soon sound plan aimed q p g _ x) (h.first j i);
          });
      false_pairs = λ q p l k v. byte_at rest q p l k ∙ false-byte q p l k v;
      plan = λ q p l k v.
          let g : True q p = record { below = l; place = k; true-in = sound q p l k v } in
          (plan-of A H L next letter low S right (L * A.n) soon sound plan aimed q p g, refl);
    }
