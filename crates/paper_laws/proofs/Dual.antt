-- A set satisfies the dual entry exactly if the states outside it do not satisfy the entry.
use mathlib.Core.Path.{◌≡◌, refl, sym, ◌∙◌, ap, ap₂}
use mathlib.Core.Logic.{◌↔◌}
use mathlib.Core.Bool.{Bool, true, false, ◌&&◌, ◌||◌, not, not-not}
use mathlib.Core.List.{List, [], ◌∷◌}
use Prim.Native.Nat.{ℕ, zero, suc, ◌<◌}
use Rattle.sets.specs.Tests.{Set, every, some_below}
use Rattle.sets.specs.Masks.{bit, inside}
use Rattle.sets.proofs.Bools.{bif, not_t}
use Rattle.theory.specs.Automaton.{Automaton}
use Rattle.theory.specs.Rule.{satisfies}
use Rattle.theory_laws.proofs.Satisfies.{satisfies-ext}
use Rattle.paper_spec.specs.Definition7.{satisfies_dual, LocallyConsistent}

not-and : (a b : Bool) → not a || not b ≡ not (a && b)
not-and true b = refl
not-and false b = refl

not-or : (a b : Bool) → not a && not b ≡ not (a || b)
not-or true b = refl
not-or false b = refl

-- some number passes exactly if not every number fails
some-every : (n : ℕ) (f g : Set) → ((q : ℕ) → f q ≡ not (g q)) → some_below n f ≡ not (every n g)
unfolding some_below every
some-every zero f g e = refl
some-every (suc n) f g e = ap₂ (λ (a b : Bool). a || b) (some-every n f g e) (e n) ∙ not-and (every n g) (g n)

pub dual-is : (n : ℕ) (X : Set) (cs : List ℕ) → satisfies_dual n X cs ≡ not (satisfies n (λ p. not (X p)) cs)
unfolding satisfies_dual satisfies inside
dual-is n X [] = refl
dual-is n X (c ∷ cs) =
    ap₂ (λ (a b : Bool). a && b)
    (some-every n (λ p. bit c p && X p) (λ p. not (bit c p) || not (X p)) (λ p. sym (not-not (bit c p && X p)) ∙ ap not (sym (not-and (bit c p) (X p)))))
    (dual-is n X cs)
    ∙ not-or (inside n (λ p. not (X p)) c) (satisfies n (λ p. not (X p)) cs)

-- L2 and L3 together say that "S holds q exactly if T's set satisfies q's entry"
module _ (A : Automaton) (a : ℕ) (T S : Set) where
  outside : (q : ℕ) → satisfies_dual A.n (λ p. not (T p)) (A.entry q a) ≡ not (satisfies A.n T (A.entry q a))
  outside q = dual-is A.n (λ p. not (T p)) (A.entry q a) ∙ ap not (satisfies-ext A.n (λ p. not (not (T p))) T (λ p m. not-not (T p)) (A.entry q a))

  pub local-iff : LocallyConsistent A a T S ↔ ((q : ℕ) → q < A.n → S q ≡ satisfies A.n T (A.entry q a))
  local-iff = (
    λ L q m. bif (S q) (λ o. o ∙ sym (L.L2 q m o)) (λ o. o ∙ sym (not_t (satisfies A.n T (A.entry q a)) (sym (outside q) ∙ L.L3 q m o))),
    λ e. record { L2 = λ q m o. sym (e q m) ∙ o; L3 = λ q m o. outside q ∙ ap not (sym (e q m) ∙ o) },
  )
