-- Two certified sequences over the same letters are equal.
use mathlib.Core.Path.{◌≡◌, refl, sym, ◌∙◌, ap}
use mathlib.Core.Logic.{◌⊎◌, inl, inr, ⊎_elim}
use mathlib.Core.Bool.{Bool, true, false, not, cond, false≢true}
use mathlib.Core.List.{List}
use Prim.Native.Nat.{ℕ, zero, suc, ◌<◌}
use native.Mathlib.Omega.{arith}
use lib.Dec.{eqb}
use borrow.Author.Tests.{eqb-true, eqb-false}
use Rattle.sets.specs.Tests.{Set}
use Rattle.sets.specs.Masks.{exclusive}
use Rattle.sets.proofs.Bools.{bif, and_l, and_r, not_t, not_f, xor-twice, clash}
use Rattle.theory.specs.Automaton.{Automaton}
use Rattle.theory.specs.Layered.{Layered}
use Rattle.theory.specs.Core.{is_open, mix, accepting_settled, rejecting_settled, settled}
use Rattle.theory_laws.proofs.Certified.{discharged, Certified}
use Rattle.theory_laws.proofs.Satisfies.{open_in, meets, meets-split, meets-open}

-- ---- the definitions, by cases
module _ (A : Automaton) where
  pub mix-in : (q : ℕ) (X D : Set) (p : ℕ) → eqb (A.component p) (A.component q) ≡ true → mix A q X D p ≡ D p
  unfolding mix
  mix-in q X D p e = ap (λ (b : Bool). cond b (D p) (X p)) e

  pub mix-out : (q : ℕ) (X D : Set) (p : ℕ) → eqb (A.component p) (A.component q) ≡ false → mix A q X D p ≡ X p
  unfolding mix
  mix-out q X D p e = ap (λ (b : Bool). cond b (D p) (X p)) e

  -- by the kind k of a component, true if it is accepting
  pub open-kind : (k : Bool) (S : Set) (q : ℕ) → A.accepting q ≡ k → is_open A S q ≡ open_in k S q
  unfolding is_open
  open-kind k S q a = rw (a, is_open)

  -- a state is open, or not, by what the set says of it
  pub open_at : (k b : Bool) (S : Set) (q : ℕ) → A.accepting q ≡ k → S q ≡ exclusive k b → is_open A S q ≡ b
  open_at k b S q a e = open-kind k S q a ∙ ap (exclusive k) e ∙ xor-twice k b

  pub open_of : (k b : Bool) (S : Set) (q : ℕ) → A.accepting q ≡ k → is_open A S q ≡ b → S q ≡ exclusive k b
  open_of k b S q a e = sym (xor-twice k (S q)) ∙ ap (exclusive k) (sym (open-kind k S q a) ∙ e)

  pub settled-kind : (k : Bool) (S D : Set) (q : ℕ) (e : List ℕ) → A.accepting q ≡ k → settled A S D q e ≡ meets k A.n (mix A q (open_in k S) D) e
  unfolding settled accepting_settled rejecting_settled
  settled-kind true S D q e a = rw (a, settled)
  settled-kind false S D q e a = rw (a, settled)

  module _ (nx w : ℕ → ℕ) (S : ℕ → Set) where
    pub discharged-open : (i d q : ℕ) → discharged A nx w S i d q ≡ true → is_open A (S i) q ≡ true
    unfolding discharged
    discharged-open i zero q e = absurd (false≢true e)
    discharged-open i (suc d) q e = and_l (is_open A (S i) q) _ e

    pub discharged-shut : (i d q : ℕ) → is_open A (S i) q ≡ false → discharged A nx w S i d q ≡ false
    discharged-shut i d q o = bif (discharged A nx w S i d q) (λ t. clash (discharged-open i d q t) o) (λ t. t)

    pub discharged-settled : (i d q : ℕ) → discharged A nx w S i (suc d) q ≡ true → settled A (S (nx i)) (discharged A nx w S (nx i) d) q (A.entry q (w i)) ≡ true
    unfolding discharged
    discharged-settled i d q e = and_r (is_open A (S i) q) _ e

module _ (A : Automaton) (H : Layered A) (nx w : ℕ → ℕ) (S1 S2 : ℕ → Set) (C1 : Certified A nx w S1) (C2 : Certified A nx w S2) where
  -- what is in S1 and not in S2 is open in the one of its kind, and shut in the other
  abbrev S : Bool → ℕ → Set
  S k = cond k S2 S1

  certified : (k : Bool) → Certified A nx w (S k)
  certified true = C2
  certified false = C1

  to-kind : (k : Bool) (i q : ℕ) → S1 i q ≡ true → S2 i q ≡ false → (open_in k (S k i) q ≡ true) × (open_in k (S (not k) i) q ≡ false)
  to-kind true i q e f = (ap not f, ap not e)
  to-kind false i q e f = (e, f)

  of-kind : (k : Bool) (i q : ℕ) → open_in k (S k i) q ≡ true → open_in k (S (not k) i) q ≡ false → (S1 i q ≡ true) × (S2 i q ≡ false)
  of-kind true i q e f = (not_f _ f, not_t _ e)
  of-kind false i q e f = (e, f)

  -- what is chased: in S1 and not in S2, with a distance in the one where it is open
  record Gap (i d q : ℕ) : Type 0 where
    below : q < A.n
    one : S1 i q ≡ true
    two : S2 i q ≡ false
    near : discharged A nx w (S (A.accepting q)) i d q ≡ true

  -- a step on: a state that is lower, or as high and nearer
  record Next (i d q : ℕ) : Type 0 where
    to : ℕ
    below : to < A.n
    one : S1 i to ≡ true
    two : S2 i to ≡ false
    how : (H.height to < H.height q) ⊎ ((H.height to ≡ H.height q) × Gap i d to)

  gap : (i q : ℕ) → q < A.n → S1 i q ≡ true → S2 i q ≡ false → (d : ℕ) × Gap i d q
  gap i q l e f =
      let k = A.accepting q in
      let (d, t) = (certified k).finite i q l (open-kind A k (S k i) q refl ∙ (to-kind k i q e f).0) in
      (d, record { below = l; one = e; two = f; near = t })

  step : (i d q : ℕ) → Gap i (suc d) q → Next (nx i) d q
  step i d q g =
      let k = A.accepting q in
      let e = A.entry q (w i) in
      let x = meets-split k A.n (mix A q (open_in k (S k (nx i))) (discharged A nx w (S k) (nx i) d)) (open_in k (S (not k) (nx i))) e
      (sym (settled-kind A k _ _ q e refl) ∙ discharged-settled A nx w (S k) i d q g.near)
      (meets-open k A.n (S (not k) (nx i)) e ∙ ap (exclusive k) (sym ((certified (not k)).exact i q g.below)) ∙ (to-kind k i q g.one g.two).1) in
      let p = x.state in
      bif (eqb (A.component p) (A.component q))
      (λ c.
      let same = eqb-true (A.component p) (A.component q) c in
      let b = H.pure p q x.below g.below same in
      let t : discharged A nx w (S k) (nx i) d p ≡ true = sym (mix-in A q _ _ p c) ∙ x.yes-in in
      let (one, two) = of-kind k (nx i) p (sym (open-kind A k (S k (nx i)) p b) ∙ discharged-open A nx w (S k) (nx i) d p t) x.not_in in
      record { to = p; below = x.below; one = one; two = two; how = inr (H.level p q x.below g.below same, record { below = x.below; one = one; two = two; near = rw b t }) })
      (λ c.
      let (one, two) = of-kind k (nx i) p (sym (mix-out A q _ _ p c) ∙ x.yes-in) x.not_in in
      record {
        to = p;
        below = x.below;
        one = one;
        two = two;
        how = ⊎_elim (λ same. absurd (eqb-false (A.component p) (A.component q) c same)) inl (H.down q (w i) x.clause p g.below x.below x.listed x.member);
      })

  -- the chase: heights below h are done, then by distance
  nearer : (h : ℕ) → ((d i q : ℕ) → H.height q < h → Gap i d q → ⊥) → (d i q : ℕ) → H.height q < suc h → Gap i d q → ⊥
  unfolding discharged
  nearer h ih zero i q l g = false≢true g.near
  nearer h ih (suc d) i q l g =
      let x = step i d q g in
      ⊎_elim
      (λ lt. let f = gap (nx i) x.to x.below x.one x.two in ih f.0 (nx i) x.to (omega arith) f.1)
      (λ k. nearer h ih d (nx i) x.to (omega (arith, k.0)) k.1)
      x.how

  chase : (h d i q : ℕ) → H.height q < h → Gap i d q → ⊥
  chase zero d i q l g = omega arith
  chase (suc h) d i q l g = nearer h (chase h) d i q l g

  pub never : (i q : ℕ) → q < A.n → S1 i q ≡ true → S2 i q ≡ false → ⊥
  never i q l e k = let f = gap i q l e k in chase (suc (H.height q)) f.0 i q (omega arith) f.1

pub unique : (A : Automaton) → Layered A → (nx w : ℕ → ℕ) (S1 S2 : ℕ → Set) → Certified A nx w S1 → Certified A nx w S2 → (i q : ℕ) → q < A.n → S1 i q ≡ S2 i q
unique A H nx w S1 S2 C1 C2 i q l =
    bif (S1 i q) (λ e. bif (S2 i q) (λ k. e ∙ sym k) (λ k. absurd (never A H nx w S1 S2 C1 C2 i q l e k)))
    (λ e. bif (S2 i q) (λ k. absurd (never A H nx w S2 S1 C2 C1 i q l k e)) (λ k. e ∙ sym k))
