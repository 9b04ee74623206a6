-- The walk over the set for one letter, a macrostate a turn.
use mathlib.Core.Path.{◌≡◌, sym, ap, subst, ◌∙◌}
use mathlib.Core.Logic.{⊎_elim, by_cases}
use mathlib.Core.List.{List}
use Prim.Native.Nat.{ℕ, zero, suc, ◌+◌, ◌*◌, ◌-◌, ◌/◌, ◌%◌, ◌≤◌, ◌<◌}
use native.Mathlib.Decide.{dec_lt, ℕ_discrete}
use native.Mathlib.Nat.{add-zero, eq-or-lt_of_le}
use native.Mathlib.Omega.{arith}
use lib.ListN.{length, get_or, set, take}
use Rattle.sets.specs.Lists.{Ascending}
use Rattle.sets.specs.Tests.{one}
use Rattle.sets.specs.Lists.{any_of}
use Rattle.sets.proofs.Lists.{mem-at}
use Rattle.sets.proofs.Ascending.{asc-at}
use Rattle.theory.specs.Run.{source_of, letter_of_lem, target_of}
use Rattle.codes.specs.Codes.{transition_of}
use Rattle.slice_search.specs.Zeros.{Zeros}
use Rattle.trim_spec.specs.Graph.{Inside}
use Rattle.live_spec.specs.Afresh.{enters}
use Rattle.live_set.specs.Sweeps.{moved, Swept}
use Rattle.live_set.proofs.Sets.{moved_other, moved_none, moved-yes, swept-start, swept-next, swept-end}
use Rattle.follow_set.specs.Sweeping.{Placed, Sweeping}

module _ (a : ℕ) (ts before : List ℕ) (low : (y : ℕ) → get_or before y 0 ≤ 1) (inside : Inside (length before) ts) where
  source : (i : ℕ) → i < length ts → source_of (get_or ts i 0) < length before
  source i l = inside.sources (get_or ts i 0) (mem-at ts i l)

  target : (i : ℕ) → i < length ts → target_of (get_or ts i 0) < length before
  target i l = inside.targets (get_or ts i 0) (mem-at ts i l)

  -- a transition that is not over the letter from a source in the set changes nothing
  pass-one : (after : List ℕ) (i : ℕ) → i < length ts → Swept a (take i ts) before after
      → (letter_of_lem (get_or ts i 0) ≡ a → get_or before (source_of (get_or ts i 0)) 0 ≡ 0) → Swept a (take (i + 1) ts) before after
  pass-one after i l s h =
      let next = swept-next a ts before low after i l (source i l) (target i l) s in
      let same : after ≡ moved a (get_or ts i 0) after =
      by_cases (ℕ_discrete (letter_of_lem (get_or ts i 0)) a)
      (λ e. moved_none a (get_or ts i 0) after e (omega (arith, s.at (source_of (get_or ts i 0)) (source i l), h e)))
      (λ n. moved_other a (get_or ts i 0) after n) in
      subst (λ (x : List ℕ). Swept a (take (i + 1) ts) before x) (sym same) next

  -- nor do several
  pass : (after : List ℕ) (p k : ℕ) → p + k ≤ length ts → Swept a (take p ts) before after
      → ((i : ℕ) → p ≤ i → i < p + k → letter_of_lem (get_or ts i 0) ≡ a → get_or before (source_of (get_or ts i 0)) 0 ≡ 0) → Swept a (take (p + k) ts) before after
  pass after p zero l s h = rw (add-zero p) s
  pass after p (suc k) l s h =
      let e : p + k + 1 ≡ p + suc k = omega arith in
      rw (sym e) (pass-one after (p + k) (omega arith) (pass after p k (omega arith) s (λ i m n. h i m (omega arith))) (h (p + k) (omega arith) (omega arith)))

  pub pass-to : (after : List ℕ) (p q : ℕ) → p ≤ q → q ≤ length ts → Swept a (take p ts) before after
      → ((i : ℕ) → p ≤ i → i < q → letter_of_lem (get_or ts i 0) ≡ a → get_or before (source_of (get_or ts i 0)) 0 ≡ 0) → Swept a (take q ts) before after
  pass-to after p q l m s h =
      let e : p + (q - p) ≡ q = omega arith in
      rw e at (pass after p (q - p) (omega arith) s (λ i b d. h i b (omega arith)))

  -- ---- the walk over the set

  pub sweeping-start : Sweeping a ts before before 0 0
  sweeping-start = record { swept = swept-start a ts before low; none = λ i l m k e. absurd (omega arith) }

  -- bytes 0 after the sweep were 0 before
  pub sweeping-over : (after : List ℕ) (x y p : ℕ) → y ≤ length before → Zeros after x y → Sweeping a ts before after x p → Sweeping a ts before after y p
  sweeping-over after x y p l z s = record {
    swept = s.swept;
    none = λ i m n k e.
        let v = source_of (get_or ts i 0) in
        by_cases (dec_lt v x) (λ u. s.none i m n u e)
        (λ u. omega (arith, s.swept.at v (source i n), z.zeros v (omega arith) k));
  }

  -- a macrostate that is not in the set
  pub sweeping-out : (after : List ℕ) (x p : ℕ) → x < length before → get_or after x 0 % 2 ≡ 0 → Sweeping a ts before after x p → Sweeping a ts before after (x + 1) p
  sweeping-out after x p l z s = record {
    swept = s.swept;
    none = λ i m n k e.
        let v = source_of (get_or ts i 0) in
        by_cases (dec_lt v x) (λ u. s.none i m n u e)
        (λ u.
        let w : v ≡ x = omega arith in
        rw w (omega (arith, s.swept.at x l, low x, z)));
  }

  pub sweeping-end : (after : List ℕ) (p : ℕ) → p ≤ length ts → Sweeping a ts before after (length before) p → Swept a ts before after
  sweeping-end after p l s =
      swept-end a ts before low after (length ts) (omega arith)
      (pass-to after p (length ts) l (omega arith) s.swept (λ i m n. s.none i m n (source i n)))

  -- ---- the transitions of a macrostate in the set

  -- its byte was 1
  pub still-in : (after : List ℕ) (x p : ℕ) → x < length before → (get_or after x 0 % 2 ≡ 0 → ⊥) → Sweeping a ts before after x p → get_or before x 0 ≡ 1
  still-in after x p l n s = omega (arith, s.swept.at x l, low x, n)

  -- up to the first of them
  pub range-start : a < 256 → (after : List ℕ) (x p q : ℕ) → Placed ts p (transition_of x a 0) q → Sweeping a ts before after x p → Swept a (take q ts) before after
  range-start h after x p q P s =
      pass-to after p q P.ordered P.within s.swept
      (λ i m n e.
      let u = P.under i m n in
      let k : source_of (get_or ts i 0) < x = omega (arith, u, e, h) in
      s.none i m (omega (arith, P.within)) k e)

  -- one of them: over the letter, from a source in the set
  pub range-next : a < 256 → (after : List ℕ) (x i : ℕ) → i < length ts → get_or ts i 0 / 65536 ≡ transition_of x a 0 / 65536 → get_or before x 0 ≡ 1
      → Swept a (take i ts) before after
      → Swept a (take (i + 1) ts) before (set after (target_of (get_or ts i 0)) (2 + get_or after (target_of (get_or ts i 0)) 0 % 2))
  range-next h after x i l e b s =
      let t = get_or ts i 0 in
      let over : letter_of_lem t ≡ a = omega (arith, e, h) in
      let from : source_of t ≡ x = omega (arith, e, h) in
      let byte : get_or after (source_of t) 0 ≡ get_or before x 0 + 2 * one (any_of (take i ts) (enters before a (source_of t))) =
      s.at (source_of t) (source i l) ∙ ap (λ (v : ℕ). get_or before v 0 + 2 * one (any_of (take i ts) (enters before a (source_of t)))) from in
      let same = moved-yes a t after over (λ z. omega (arith, byte, b, z)) in
      subst (λ (v : List ℕ). Swept a (take (i + 1) ts) before v) (sym same) (swept-next a ts before low after i l (source i l) (target i l) s)

  -- behind the last of them
  pub range-end : a < 256 → Ascending ts → (before₁ after : List ℕ) (x p q r : ℕ) → Placed ts p (transition_of x a 0) q → q ≤ r
      → (r < length ts → get_or ts r 0 / 65536 ≡ transition_of x a 0 / 65536 → ⊥) → p ≤ r → Sweeping a ts before before₁ x p → Swept a (take r ts) before after
      → Sweeping a ts before after (x + 1) r
  range-end h asc before₁ after x p q r P m stop g s w = record {
    swept = w;
    none = λ i k n b e.
        let first : transition_of x a 0 ≤ get_or ts r 0 = P.over r m (omega arith) in
        let next : transition_of x a 0 + 65536 ≤ get_or ts r 0 =
        by_cases (dec_lt (get_or ts r 0) (transition_of x a 0 + 65536)) (λ u. absurd (stop (omega arith) (omega (arith, first, u)))) (λ u. omega arith) in
        let later : get_or ts r 0 ≤ get_or ts i 0 =
        ⊎_elim (λ (f : r ≡ i). rw f (omega arith)) (λ (f : r < i). omega (arith, asc-at ts asc r i f n)) (eq-or-lt_of_le k) in
        absurd (omega (arith, next, later, b, e, h));
  }
