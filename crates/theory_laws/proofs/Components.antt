-- The computed leads-to is the inductive one, components are its classes, and a height falls from component to component.
use mathlib.Core.Path.{◌≡◌, refl, sym, ◌∙◌, ap, ap₂}
use mathlib.Core.Logic.{◌⊎◌, inl, inr, ⊎_elim, by_cases, ◌↔◌}
use mathlib.Core.Bool.{Bool, true, false, ◌&&◌, ◌||◌, cond}
use mathlib.Core.List.Memᴰ
use mathlib.Core.List.{[], List, ◌∷◌, Memᴰ}
use Prim.Native.Nat.{ℕ, zero, suc, ◌*◌, ◌^◌, ◌≤◌, ◌<◌}
use native.Mathlib.Omega.{arith}
use native.Mathlib.Decide.{dec_lt}
use lib.Dec.{eqb, leb, ltb}
use lib.ListN.{length}
use borrow.Author.Tests.{eqb-true, eq-eqb, lt-ltb, le-ltb, ltb-true, ltb-false, leb-false}
use Rattle.sets.specs.Tests.{some_below, count}
use Rattle.sets.specs.Masks.{bit}
use Rattle.sets.specs.Lists.{any_of, sum}
use Rattle.sets.proofs.Bools.{bif, clash, and_l, and_r, and_i, or_l, or_r, or_cases, iff}
use Rattle.sets.proofs.Tests.{some_at, some-get, some-no, some-none, some-ext, count-ext, count-lt, count-more, first-at, first-le}
use Rattle.sets.proofs.Growth.{still}
use Rattle.sets.proofs.Masks.{bit_mask}
use Rattle.sets.proofs.Lists.{any_none}
use Rattle.theory.specs.Passing.{Passing}
use Rattle.theory.specs.Rule.{Rule, entry}
use Rattle.theory.specs.Components.{named, leads, LeadsTo, here, step, Together, within, reaches, together, smallest, is_smallest, component, components, mixed}

named-at : (cs : List ℕ) (c q : ℕ) → Memᴰ c cs → bit c q ≡ true → named cs q ≡ true
unfolding named
named-at [] c q x'' b = elim x'' [ ]
named-at (d ∷ cs) c q (Memᴰ.head e) b = or_l (bit d q) (named cs q) (ap (λ (x : ℕ). bit x q) (sym e) ∙ b)
named-at (d ∷ cs) c q (Memᴰ.tail k) b = or_r (bit d q) (named cs q) (named-at cs c q k b)

module _ (R : Rule) where
  pub within-0 : (q p : ℕ) → p < R.n → bit (within R zero q) p ≡ eqb q p
  unfolding within
  within-0 q p l = bit_mask R.n _ p l

  pub within-suc : (k q p : ℕ) → p < R.n → bit (within R (suc k) q) p ≡ (bit (within R k q) p || some_below R.n (λ r. bit (within R k q) r && leads R r p))
  unfolding within
  within-suc k q p l = bit_mask R.n _ p l

  pub grows : (k q p : ℕ) → p < R.n → bit (within R k q) p ≡ true → bit (within R (suc k) q) p ≡ true
  grows k q p l e = within-suc k q p l ∙ or_l (bit (within R k q) p) _ e

  pub steady : (q p : ℕ) → p < R.n → bit (within R R.n q) p ≡ bit (within R (suc R.n) q) p
  steady q p l = still R.n (λ k. bit (within R k q)) (λ k x m t. grows k q x m t)
      (λ k h x m. within-suc k q x m ∙ ap₂ ◌||◌ (h x m) (some-ext R.n _ _ (λ r n. ap (λ (b : Bool). b && leads R r x) (h r n))) ∙ sym (within-suc (suc k) q x m)) p l

  -- closed under a step
  pub closed : (q r p : ℕ) → r < R.n → p < R.n → reaches R q r ≡ true → leads R r p ≡ true → reaches R q p ≡ true
  unfolding reaches
  closed q r p l m e t = steady q p m ∙ within-suc R.n q p m ∙ or_r (bit (within R R.n q) p) _ (some_at R.n _ r l (and_i e t))

  pub from : (k q r p : ℕ) → r < R.n → p < R.n → reaches R q r ≡ true → bit (within R k r) p ≡ true → reaches R q p ≡ true
  from zero q r p l m e t = let x = eqb-true r p (sym (within-0 r p m) ∙ t) in rw x at e
  from (suc k) q r p l m e t =
      ⊎_elim
      (λ u. from k q r p l m e u)
      (λ u. let x = some-get R.n _ u in
      closed q x.0 p x.1 m (from k q r x.0 l x.1 e (and_l (bit (within R k r) x.0) _ x.2)) (and_r (bit (within R k r) x.0) _ x.2))
      (or_cases (bit (within R k r) p) _ (sym (within-suc k r p m) ∙ t))

  pub reach-trans : (q r p : ℕ) → r < R.n → p < R.n → reaches R q r ≡ true → reaches R r p ≡ true → reaches R q p ≡ true
  unfolding reaches
  reach-trans q r p l m e t = from R.n q r p l m e t

  pub own : (k q : ℕ) → q < R.n → bit (within R k q) q ≡ true
  own zero q l = within-0 q q l ∙ eq-eqb q q refl
  own (suc k) q l = grows k q q l (own k q l)

  pub reach-refl : (q : ℕ) → q < R.n → reaches R q q ≡ true
  unfolding reaches
  reach-refl q l = own R.n q l

  pub together-refl : (q : ℕ) → q < R.n → together R q q ≡ true
  unfolding together
  together-refl q l = and_i (reach-refl q l) (reach-refl q l)

  pub together-sym : (q p : ℕ) → together R q p ≡ true → together R p q ≡ true
  unfolding together
  together-sym q p e = and_i (and_r (reaches R q p) (reaches R p q) e) (and_l (reaches R q p) (reaches R p q) e)

  pub together-trans : (q r p : ℕ) → q < R.n → r < R.n → p < R.n → together R q r ≡ true → together R r p ≡ true → together R q p ≡ true
  unfolding together
  together-trans q r p k l m e t =
      and_i (reach-trans q r p l m (and_l (reaches R q r) _ e) (and_l (reaches R r p) _ t)) (reach-trans p r q l k (and_r (reaches R r p) _ t) (and_r (reaches R q r) _ e))

  pub smallest-le : (q p : ℕ) → together R q p ≡ true → smallest R q ≤ p
  unfolding smallest
  smallest-le q p e = first-le R.n (together R q) 0 p (omega arith) e

  pub smallest-together : (q : ℕ) → q < R.n → together R q (smallest R q) ≡ true
  unfolding smallest
  smallest-together q l = first-at R.n (together R q) 0 q (omega arith) (omega arith) (together-refl q l)

  pub smallest-lt : (q : ℕ) → q < R.n → smallest R q < R.n
  smallest-lt q l = let h = smallest-le q q (together-refl q l) in omega arith

  pub smallest-of-together : (p q : ℕ) → p < R.n → q < R.n → together R p q ≡ true → smallest R p ≡ smallest R q
  smallest-of-together p q l m e =
      let b = smallest-le q (smallest R p) (together-trans q p (smallest R p) m l (smallest-lt p l) (together-sym p q e) (smallest-together p l)) in
      omega (arith, smallest-le p (smallest R q) (together-trans p q (smallest R q) l m (smallest-lt q m) e (smallest-together q m)))

  pub smallest-is : (q : ℕ) → q < R.n → is_smallest R (smallest R q) ≡ true
  unfolding is_smallest
  smallest-is q l = eq-eqb _ _ (sym (smallest-of-together q (smallest R q) l (smallest-lt q l) (smallest-together q l)))

  pub component-of-together : (p q : ℕ) → p < R.n → q < R.n → together R p q ≡ true → component R p ≡ component R q
  unfolding component
  component-of-together p q l m e = ap (λ (x : ℕ). count x (is_smallest R)) (smallest-of-together p q l m e)

  pub together-of-component : (p q : ℕ) → p < R.n → q < R.n → component R p ≡ component R q → together R p q ≡ true
  unfolding component
  together-of-component p q l m e =
      let x : smallest R p ≡ smallest R q = by_cases (dec_lt (smallest R p) (smallest R q))
      (λ h. let k = count-lt (smallest R p) (smallest R q) (is_smallest R) h (smallest-is p l) in absurd (omega arith))
      (λ h. by_cases (dec_lt (smallest R q) (smallest R p))
      (λ g. let k = count-lt (smallest R q) (smallest R p) (is_smallest R) g (smallest-is q m) in absurd (omega arith))
      (λ g. omega arith)) in
      together-trans p (smallest R p) q l (smallest-lt p l) m (smallest-together p l) (together-sym q (smallest R p) (rw x (smallest-together q m)))

  pub height : ℕ → ℕ
  height q = cond (ltb q R.n) (count R.n (reaches R q)) (suc R.n)

  pub height-in : (q : ℕ) → q < R.n → height q ≡ count R.n (reaches R q)
  unfolding height
  height-in q l = rw (lt-ltb q R.n l)

  pub height-out : (q : ℕ) → R.n ≤ q → height q ≡ suc R.n
  unfolding height
  height-out q l = rw (le-ltb q R.n l)

  -- ---- the states of q's clauses

  pub clause-leads : (q a c p : ℕ) → Memᴰ c (entry R q a) → bit c p ≡ true → leads R q p ≡ true
  unfolding leads entry
  clause-leads q a c p m b =
      bif (ltb a R.s) (λ t. some_at R.s _ a (ltb-true a R.s t) (named-at (entry R q a) c p m b))
      (λ t. absurd (Memᴰ.not-nil {a = c} (rw t at m)))

  pub same-heights : (p q : ℕ) → p < R.n → q < R.n → together R p q ≡ true → count R.n (reaches R p) ≡ count R.n (reaches R q)
  unfolding together
  same-heights p q l m e =
      count-ext R.n _ _ (λ x k. iff (reaches R p x) (reaches R q x)
      (λ t. reach-trans q p x l k (and_r (reaches R p q) _ e) t)
      (λ t. reach-trans p q x m k (and_l (reaches R p q) _ e) t))

  pub falls : (q p : ℕ) → q < R.n → p < R.n → leads R q p ≡ true → (component R p ≡ component R q) ⊎ (height p < height q)
  unfolding together
  falls q p l k t =
      let r = closed q q p l k (reach-refl q l) t in
      bif (reaches R p q) (λ b. inl (component-of-together p q k l (and_i b r)))
      (λ b. let x = count-more R.n (reaches R p) (reaches R q) (λ y m e. reach-trans q p y k m r e) q l b (reach-refl q l) in
      let h1 = height-in p k in let h2 = height-in q l in inr (omega arith))

  pub few_components : (q : ℕ) → q < R.n → component R q < components R
  unfolding component components
  few_components q l = count-lt (smallest R q) R.n (is_smallest R) (smallest-lt q l) (smallest-is q l)

  -- ---- the inductive closure

  sound : (k q p : ℕ) → p < R.n → bit (within R k q) p ≡ true → LeadsTo R q p
  sound zero q p l t = let e = eqb-true q p (sym (within-0 q p l) ∙ t) in rw (sym e) here
  sound (suc k) q p l t =
      ⊎_elim
      (λ u. sound k q p l u)
      (λ u. let x = some-get R.n _ u in
      step (sound k q x.0 x.1 (and_l (bit (within R k q) x.0) _ x.2)) l (and_r (bit (within R k q) x.0) _ x.2))
      (or_cases (bit (within R k q) p) _ (sym (within-suc k q p l) ∙ t))

  -- a state leads to states only
  pub leads-to-state : (q p : ℕ) → q < R.n → LeadsTo R q p → p < R.n
  leads-to-state q p l here = l
  leads-to-state q p l (step x m e) = m

  complete : (q p : ℕ) → q < R.n → LeadsTo R q p → reaches R q p ≡ true
  complete q p l here = reach-refl q l
  complete q p l (step {p = t} x m e) = closed q t p (leads-to-state q t l x) m (complete q t l x) e

  -- the computed leads-to is the inductive one
  pub leads-to-iff : (q p : ℕ) → q < R.n → p < R.n → (reaches R q p ≡ true) ↔ LeadsTo R q p
  unfolding reaches
  leads-to-iff q p l m = (λ t. sound R.n q p m t, λ x. complete q p l x)

  pub together-iff : (q p : ℕ) → q < R.n → p < R.n → (together R q p ≡ true) ↔ Together R q p
  unfolding together
  together-iff q p l m = (
    λ t. record { there = (leads-to-iff q p l m).0 (and_l (reaches R q p) (reaches R p q) t); back = (leads-to-iff p q m l).0 (and_r (reaches R q p) (reaches R p q) t) },
    λ x. and_i ((leads-to-iff q p l m).1 x.there) ((leads-to-iff p q m l).1 x.back),
  )

  -- the numbers of components are equal exactly for states that lead to each other
  pub component-iff : (q p : ℕ) → q < R.n → p < R.n → (component R q ≡ component R p) ↔ Together R q p
  component-iff q p l m = (λ e. (together-iff q p l m).0 (together-of-component q p l m e), λ x. component-of-together q p l m ((together-iff q p l m).1 x))

  -- ---- row 11

  one-sided : (q p : ℕ) → q < R.n → p < R.n → mixed R ≡ false → together R q p ≡ true → bit R.accepting q ≡ true → bit R.accepting p ≡ true
  unfolding mixed
  one-sided q p l m e t a =
      bif (bit R.accepting p) (λ b. b)
      (λ b. clash (and_i t (and_i a (rw b))) (some-no R.n _ (some-no R.n _ e q l) p m))

  pub unmixed-iff : (mixed R ≡ false) ↔ ((q p : ℕ) → q < R.n → p < R.n → Together R q p → bit R.accepting q ≡ bit R.accepting p)
  unfolding mixed
  unmixed-iff = (
    λ e q p l m x. let t = (together-iff q p l m).1 x in iff _ _ (one-sided q p l m e t) (one-sided p q m l e (together-sym q p t)),
    λ h. some-none R.n _ (λ q l. some-none R.n _ (λ p m. bif (together R q p)
        (λ t. bif (bit R.accepting q) (λ a. rw (t, a, sym (h q p l m ((together-iff q p l m).0 t)) ∙ a)) (λ a. rw (t, a)))
        (λ t. rw t))),
  )

  -- a rule whose checks compute
  pub passing-by : 1 ≤ R.n → R.n ≤ 8 → 1 ≤ R.s → R.s ≤ 16 → R.initial < R.n → R.accepting < 2 ^ R.n → length R.counts ≡ R.n * R.s
      → any_of R.counts (ltb 8) ≡ false → sum R.counts ≡ length R.clauses → any_of R.clauses (leb (2 ^ R.n)) ≡ false → mixed R ≡ false → Passing R
  passing-by n₁ n₈ s₁ s₁₆ i f entries few clauses states unmixed = record {
    formed = record {
      some_state = n₁;
      few_states = n₈;
      some_letter = s₁;
      few_letters = s₁₆;
      initial_state = i;
      accepting_states = f;
      all_entries = entries;
      few_clauses = λ x m. ltb-false 8 x (any_none R.counts (ltb 8) x few m);
      all_clauses = clauses;
      clause_states = λ x m. leb-false (2 ^ R.n) x (any_none R.clauses (leb (2 ^ R.n)) x states m);
    };
    unmixed = unmixed-iff.0 unmixed;
  }
