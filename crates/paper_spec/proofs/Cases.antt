-- What the definitions give for the examples, evaluated.
use mathlib.Core.Path.{◌≡◌, refl}
use mathlib.Core.Bool.{true, false, cond}
use mathlib.Core.List.{[], ◌∷◌}
use Prim.Native.Nat.{ℕ, ◌≤◌, ◌<◌}
use native.Mathlib.Omega.{arith}
use lib.Dec.{eqb, ltb}
use Rattle.sets.specs.Lists.{sum}
use Rattle.sets.specs.Masks.{bit, mask, inside}
use Rattle.sets.specs.Tests.{Set, every, some_below, count, first}
use Rattle.theory.specs.Automaton.{automaton}
use Rattle.theory.specs.Components as parts
use Rattle.theory.specs.Components.{named, leads, within, reaches, smallest, is_smallest, component, components}
use Rattle.theory.specs.Core.{mix, rejecting_settled, accepting_settled}
use Rattle.theory.specs.Examples.{D, X}
use Rattle.theory.specs.Rule.{entry, satisfies}
use Rattle.paper_spec.specs.Halves.{EarlierRejecting, EarlierAccepting, both_halves}
use Rattle.paper_spec.specs.Definition7.{satisfies_dual, in_c, lower_r1, witness_r1, lower_r2, witness_r2, Consistent}
use Rattle.paper_spec.specs.Examples.{DualD}

-- what an evaluation unfolds
unfoldable computed : ℕ
unfolding mask every satisfies inside bit some_below count first component components is_smallest smallest parts.together reaches within leads named entry sum automaton satisfies_dual in_c lower_r1
    witness_r1 lower_r2 witness_r2 both_halves rejecting_settled accepting_settled mix
computed = 0

-- ---- the dual entry

-- the set {0, 1} has a state of each of the clauses {0} and {1, 2}, and none of {2}
dual-yes : satisfies_dual 3 (λ p. ltb p 2) (1 ∷ 6 ∷ []) ≡ true
unfolding computed
dual-yes = refl

dual-no : satisfies_dual 3 (λ p. ltb p 2) (1 ∷ 4 ∷ []) ≡ false
unfolding computed
dual-no = refl

-- no clause: always; an empty clause: never
dual-none : satisfies_dual 3 (λ p. false) [] ≡ true
unfolding computed
dual-none = refl

dual-empty : satisfies_dual 3 (λ p. true) (0 ∷ []) ≡ false
unfolding computed
dual-empty = refl

-- ---- R1': rule D at letter 0, both states true and in one class. State 1 leaves at once (an empty clause), state 0 needs state 1.

r1-before : witness_r1 (automaton D) 0 (λ p. true) (λ p. 1) 1 0 ≡ true
unfolding computed
r1-before = refl

r1-not-after : witness_r1 (automaton D) 0 (λ p. true) (λ p. 1) 0 1 ≡ false
unfolding computed
r1-not-after = refl

-- ---- R2': its dual at letter 0, both states false and in one class: the same order

r2-before : witness_r2 (automaton DualD) 0 (λ p. false) (λ p. 1) 1 0 ≡ true
unfolding computed
r2-before = refl

r2-not-after : witness_r2 (automaton DualD) 0 (λ p. false) (λ p. 1) 0 1 ≡ false
unfolding computed
r2-not-after = refl

-- ---- rule X: the component {0, 1} is rejecting, {2, 3} accepting. The later core holds 0 and 1 in one class, 2 and 3 are false with ranks 1 and 2;
-- the earlier core has the same set.

abbrev set_x : Set
set_x p = ltb p 2

abbrev ranks_x : ℕ → ℕ
ranks_x q = cond (eqb q 3) 2 1

-- by R1' state 1, which leaves at once, comes before state 0; by R2' state 3, whose entry needs 2, comes before state 2, whose entry needs 3
x-orders : (ranks : ℕ → ℕ) → Consistent (automaton X) 0 set_x ranks_x set_x ranks → (ranks 1 < ranks 0) × (ranks 3 < ranks 2)
unfolding computed
x-orders ranks P = (
  (P.R1' 1 0 (omega arith) (omega arith) refl refl refl refl).1 refl,
  (P.R2' 3 2 (omega arith) (omega arith) refl refl refl refl).1 refl,
)

-- and neither the other way round
x-not-after : (witness_r1 (automaton X) 0 set_x ranks_x 0 1 ∷ witness_r2 (automaton X) 0 set_x ranks_x 2 3 ∷ []) ≡ (false ∷ false ∷ [])
unfolding computed
x-not-after = refl

-- its levels, in the rejecting component and in the accepting one
x-rejecting : (r l : ℕ → ℕ) → EarlierRejecting (automaton X) 0 set_x r set_x ranks_x l → (l 1 ≤ 0) × (l 0 ≤ 1)
unfolding computed
x-rejecting r l E = ((E.level 1 (omega arith) refl refl).least 0 refl, (E.level 0 (omega arith) refl refl).least 1 refl)

x-accepting : (r l : ℕ → ℕ) → EarlierAccepting (automaton X) 0 set_x r set_x ranks_x l → (l 3 ≤ 1) × (l 2 ≤ 2)
unfolding computed
x-accepting r l E = ((E.level 3 (omega arith) refl refl).least 1 refl, (E.level 2 (omega arith) refl refl).least 2 refl)

-- ---- both halves in one: X's rejecting states from the first, its accepting ones from the second

x-together : (both_halves (automaton X) (λ q. 1) (λ q. 2) 0 ∷ both_halves (automaton X) (λ q. 1) (λ q. 2) 3 ∷ []) ≡ (1 ∷ 2 ∷ [])
unfolding computed
x-together = refl
