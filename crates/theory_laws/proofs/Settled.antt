-- Laws of `settled`: states D that agree, states D that grow, and D all the open states.
use mathlib.Core.Path.{◌≡◌, refl, sym, ◌∙◌, ap}
use mathlib.Core.Bool.{Bool, true}
use mathlib.Core.List.{List, Memᴰ}
use Prim.Native.Nat.{ℕ, ◌<◌}
use lib.Dec.{eqb}
use borrow.Author.Tests.{eqb-true, eqb-false}
use Rattle.sets.specs.Tests.{Set}
use Rattle.sets.specs.Masks.{bit, exclusive}
use Rattle.sets.proofs.Bools.{bif}
use Rattle.theory.specs.Automaton.{Automaton}
use Rattle.theory.specs.Layered.{Layered}
use Rattle.theory.specs.Core.{is_open, mix, settled}
use Rattle.theory.specs.Rule.{satisfies}
use Rattle.theory_laws.proofs.Pursuit.{open-kind, mix-in, mix-out, settled-kind}
use Rattle.theory_laws.proofs.Satisfies.{open_in, meets-mono, meets-open, satisfies-ext, satisfies-ext-in}

module _ (A : Automaton) where
  -- states that agree at the members of the entry's clauses: D those of q's component, S the others
  module _ (S S' D D' : Set) (q : ℕ) (e : List ℕ)
      (inner : (c p : ℕ) → Memᴰ c e → p < A.n → bit c p ≡ true → A.component p ≡ A.component q → D p ≡ D' p)
      (outer : (c p : ℕ) → Memᴰ c e → p < A.n → bit c p ≡ true → (A.component p ≡ A.component q → ⊥) → S p ≡ S' p) where
    mix-ext : (k : Bool) (c p : ℕ) → Memᴰ c e → p < A.n → bit c p ≡ true → mix A q (open_in k S) D p ≡ mix A q (open_in k S') D' p
    mix-ext k c p m l b =
        bif (eqb (A.component p) (A.component q))
        (λ t. mix-in A q _ _ p t ∙ inner c p m l b (eqb-true _ _ t) ∙ sym (mix-in A q _ _ p t))
        (λ t. mix-out A q _ _ p t ∙ ap (exclusive k) (outer c p m l b (eqb-false _ _ t)) ∙ sym (mix-out A q _ _ p t))

    pub settled-in-ext : settled A S D q e ≡ settled A S' D' q e
    settled-in-ext =
        let k = A.accepting q in
        settled-kind A k S D q e refl
        ∙ ap (exclusive k) (satisfies-ext-in A.n _ _ e (λ c p m l b. ap (exclusive k) (mix-ext k c p m l b)))
        ∙ sym (settled-kind A k S' D' q e refl)

  pub settled-ext : (S D E : Set) (q : ℕ) (e : List ℕ) → ((p : ℕ) → p < A.n → A.component p ≡ A.component q → D p ≡ E p) → settled A S D q e ≡ settled A S E q e
  settled-ext S D E q e h = settled-in-ext S S D E q e (λ c p m l b s. h p l s) (λ c p m l b n. refl)

  mix-mono : (q : ℕ) (X D E : Set) → ((p : ℕ) → p < A.n → A.component p ≡ A.component q → D p ≡ true → E p ≡ true) → (p : ℕ) → p < A.n → mix A q X D p ≡ true → mix A q X E p ≡ true
  mix-mono q X D E h p l t =
      bif (eqb (A.component p) (A.component q))
      (λ c. mix-in A q X E p c ∙ h p l (eqb-true _ _ c) (sym (mix-in A q X D p c) ∙ t))
      (λ c. mix-out A q X E p c ∙ sym (mix-out A q X D p c) ∙ t)

  pub settled-mono : (S D E : Set) (q : ℕ) (e : List ℕ) → ((p : ℕ) → p < A.n → A.component p ≡ A.component q → D p ≡ true → E p ≡ true) → settled A S D q e ≡ true → settled A S E q e ≡ true
  settled-mono S D E q e h t =
      let k = A.accepting q in
      settled-kind A k S E q e refl
      ∙ meets-mono k A.n (mix A q (open_in k S) D) (mix A q (open_in k S) E) e (λ c p m l b. mix-mono q (open_in k S) D E h p l) (sym (settled-kind A k S D q e refl) ∙ t)

  -- with every open state the entry is settled exactly as the set says
  pub settled-all : Layered A → (S : Set) (q : ℕ) → q < A.n → (e : List ℕ) → settled A S (is_open A S) q e ≡ exclusive (A.accepting q) (satisfies A.n S e)
  settled-all H S q l e =
      let k = A.accepting q in
      settled-kind A k S (is_open A S) q e refl ∙ ap (exclusive k) (satisfies-ext A.n _ _ (λ p m. ap (exclusive k) {x = mix A q (open_in k S) (is_open A S) p} {y = open_in k S p}
      (bif (eqb (A.component p) (A.component q))
      (λ c. mix-in A q _ _ p c ∙ open-kind A k S p (H.pure p q m l (eqb-true _ _ c)))
      (λ c. mix-out A q _ _ p c))) e)
      ∙ meets-open k A.n S e
