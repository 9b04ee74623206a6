-- Discharge within d steps is discharge within more, and the least number of steps is the distance.
use mathlib.Core.Path.{◌≡◌}
use mathlib.Core.Logic.{by_cases}
use mathlib.Core.Bool.{true, false≢true}
use Prim.Native.Nat.{ℕ, zero, suc, ◌≤◌, ◌<◌}
use native.Mathlib.Omega.{arith}
use native.Mathlib.Decide.{dec_lt, ℕ_discrete}
use lib.Dec.{leb}
use borrow.Author.Tests.{leb-false}
use Rattle.sets.specs.Tests.{Set, first}
use Rattle.sets.proofs.Bools.{bif, clash, and_i}
use Rattle.sets.proofs.Tests.{first-leb}
use Rattle.theory.specs.Automaton.{Automaton}
use Rattle.theory.specs.Core.{is_open}
use Rattle.theory_laws.proofs.Certified.{discharged, Certified}
use Rattle.theory_laws.proofs.Pursuit.{discharged-open, discharged-settled}
use Rattle.theory_laws.proofs.Settled.{settled-mono}

module _ (A : Automaton) (nx w : ℕ → ℕ) (S : ℕ → Set) where
  pub discharged-up : (d i q : ℕ) → q < A.n → discharged A nx w S i d q ≡ true → discharged A nx w S i (suc d) q ≡ true
  unfolding discharged
  discharged-up zero i q l e = absurd (false≢true e)
  discharged-up (suc d) i q l e = and_i (discharged-open A nx w S i (suc d) q e) (settled-mono A _ _ _ q _ (λ p m s t. discharged-up d (nx i) p m t) (discharged-settled A nx w S i d q e))

  pub discharged-le : (d e i q : ℕ) → q < A.n → d ≤ e → discharged A nx w S i d q ≡ true → discharged A nx w S i e q ≡ true
  discharged-le d zero i q l h t = let x : d ≡ 0 = omega arith in rw x at t
  discharged-le d (suc e) i q l h t =
      by_cases (ℕ_discrete d (suc e)) (λ x. rw x at t) (λ x. discharged-up e i q l (discharged-le d e i q l (omega arith) t))

-- each open state has a number of steps of its own
module _ (A : Automaton) (nx w : ℕ → ℕ) (S : ℕ → Set) (C : Certified A nx w S) where
  bounded : (i q : ℕ) → (d : ℕ) × (q < A.n → is_open A (S i) q ≡ true → discharged A nx w S i d q ≡ true)
  bounded i q =
      by_cases (dec_lt q A.n)
      (λ l. bif (is_open A (S i) q) (λ o. let (d, t) = C.finite i q l o in (d, λ k p. t)) (λ o. (0, λ k t. clash t o)))
      (λ l. (0, λ k t. absurd (l k)))

  pub distance : ℕ → ℕ → ℕ
  distance i q = first (bounded i q).0 (λ d. discharged A nx w S i d q) 0

  pub distance-leb : (i q : ℕ) → q < A.n → is_open A (S i) q ≡ true → (d : ℕ) → leb (distance i q) d ≡ discharged A nx w S i d q
  unfolding distance
  distance-leb i q l o d = first-leb (bounded i q).0 _ (λ a b h t. discharged-le A nx w S a b i q l h t) ((bounded i q).1 l o) d

  pub distance-pos : (i q : ℕ) → q < A.n → is_open A (S i) q ≡ true → 0 < distance i q
  unfolding discharged
  distance-pos i q l o = leb-false (distance i q) 0 (distance-leb i q l o 0)
