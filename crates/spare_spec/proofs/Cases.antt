-- Steps of rules that 01 uses in checking, and whether they spare a component.
use mathlib.Core.Path.{◌≡◌, refl}
use mathlib.Core.Logic.{inl, inr}
use mathlib.Core.Bool.{true, false, ◌&&◌, false≢true}
use Prim.Native.Nat.{ℕ, zero, suc, ◌≤◌, ◌<◌}
use native.Mathlib.Omega.{arith}
use Rattle.sets.specs.Lists.{sum}
use Rattle.sets.specs.Masks.{bit, mask, inside}
use Rattle.sets.specs.Tests.{every, some_below, count, first, largest}
use Rattle.theory.specs.Automaton.{automaton}
use Rattle.theory.specs.Code.{component_in, classes_in, set_in, rank_in}
use Rattle.theory.specs.Components.{named, leads, within, reaches, together, smallest, is_smallest, component, components}
use Rattle.theory.specs.Core.{Least, is_open, mix, rejecting_settled, accepting_settled, settled, settled_up_to, open_of_lem, next_component_lem}
use Rattle.theory.specs.CoreComputed.{level_of, taken, rank_of}
use Rattle.theory.specs.Examples.{F, D, I}
use Rattle.theory.specs.MacrostateComputed.{before, onward, goes}
use Rattle.theory.specs.Rule.{entry, satisfies}
use Rattle.spare_spec.specs.Spare.{SparesIn}
use Rattle.spare_spec.specs.SpareComputed.{has_level, spares}

-- what an evaluation unfolds
unfoldable computed : ℕ
unfolding has_level spares goes before onward automaton set_in rank_in component_in classes_in every satisfies inside bit mask rank_of level_of settled_up_to settled rejecting_settled accepting_settled mix
    is_open taken some_below count first largest open_of_lem next_component_lem component components is_smallest smallest together reaches within leads named entry sum
computed = 0

-- ---- F, some time letter 1: the state waits over letter 0

pub waits-F : spares (automaton F) 0 257 257 0 ≡ false
unfolding computed
waits-F = refl

pub spared-F : spares (automaton F) 1 257 257 0 ≡ true
unfolding computed
spared-F = refl

-- "or if m is 0": the state has level 0, and there is no class
pub none-F : spares (automaton F) 1 257 0 0 ≡ true
unfolding computed
none-F = refl

-- ---- D, two states of one component, of ranks 2 and 1 in the core 4611: over letter 0 their levels are the rank of state 1, and 0

-- no level is 2
pub spared-D : spares (automaton D) 0 4611 4611 0 ≡ true
unfolding computed
spared-D = refl

-- where state 1 has rank 2, or the only one, its rank is a level
pub high-D : spares (automaton D) 0 4611 8451 0 ≡ false
unfolding computed
high-D = refl

pub tied-D : spares (automaton D) 0 4611 4355 0 ≡ false
unfolding computed
tied-D = refl

-- k is 2, 1 and 0 in the same core: 0 within as many spared steps as there are states
pub falls-D : goes (automaton D) 35184372093443 0 17592186049027 && goes (automaton D) 17592186049027 0 4611 ≡ true
unfolding computed
falls-D = refl

-- ---- I, letter 1 again and again: an accepting and a rejecting component, the rejecting one with its state open

pub accepting-I : spares (automaton I) 0 4099 4099 0 ≡ true
unfolding computed
accepting-I = refl

pub rejecting-I : spares (automaton I) 0 4099 4099 1 ≡ false
unfolding computed
rejecting-I = refl

pub spared-I : spares (automaton I) 1 4099 4099 1 ≡ true
unfolding computed
spared-I = refl

-- ---- the same steps of F and D, by the definition

-- over letter 0 to itself the state of F has level 1, and there is one class
level-F : Least (settled_up_to (automaton F) (set_in (automaton F) 257) (rank_in (automaton F) 257) 0 (entry F 0 0)) 1
unfolding computed
level-F = record { holds = refl; least = least }
  where
    least : (i : ℕ) → settled_up_to (automaton F) (set_in (automaton F) 257) (rank_in (automaton F) 257) 0 (entry F 0 0) i ≡ true → 1 ≤ i
    least zero e = absurd (false≢true e)
    least (suc i) e = omega arith

pub waits-F-defined : SparesIn (automaton F) 0 257 257 0 → ⊥
unfolding computed
waits-F-defined (inl h) = h 0 (omega arith) refl level-F
waits-F-defined (inr z) = omega (arith, z)

pub none-F-defined : SparesIn (automaton F) 1 257 0 0
unfolding computed
none-F-defined = inr refl

-- no state of D has level 2: the test holds at 1
pub spared-D-defined : SparesIn (automaton D) 0 4611 4611 0
unfolding computed
spared-D-defined = inl none
  where
    none : (q : ℕ) → q < 2 → open_of_lem (automaton D) (set_in (automaton D) 4611) 0 q ≡ true
        → Least (settled_up_to (automaton D) (set_in (automaton D) 4611) (rank_in (automaton D) 4611) q (entry D q 0)) 2 → ⊥
    none zero l o x = let h = x.least 1 refl in omega arith
    none (suc zero) l o x = let h = x.least 1 refl in omega arith
    none (suc (suc q)) l o x = omega arith
