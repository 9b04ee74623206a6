-- What the definitions give for 01's rules, evaluated.
use mathlib.Core.Path.{◌≡◌, refl}
use mathlib.Core.Bool.{true, false}
use mathlib.Core.List.{[], ◌∷◌}
use Prim.Native.Nat.{ℕ}
use Rattle.sets.specs.Digits.{num}
use Rattle.sets.specs.Lists.{keep, among, any_of, sum, tabulate, flat, insert_ascending, sorted}
use Rattle.sets.specs.Masks.{bit, mask, inside}
use Rattle.sets.specs.Tests.{every, some_below, count, first, largest}
use Rattle.theory.specs.Automaton.{automaton}
use Rattle.theory.specs.Code.{fields, pack, component_in, classes_in, set_in, rank_in, well_coded}
use Rattle.theory.specs.Components.{named, leads, within, reaches, together, smallest, is_smallest, component, components}
use Rattle.theory.specs.Core.{is_open, mix, rejecting_settled, accepting_settled, settled, settled_up_to, open_of_lem, next_component_lem}
use Rattle.theory.specs.CoreComputed.{level_of, taken, rank_of, is_core_lem}
use Rattle.theory.specs.Examples.{F, E, Z}
use Rattle.theory.specs.Macrostate.{begun, is_accepting_lem}
use Rattle.theory.specs.MacrostateComputed.{before, onward, goes}
use Rattle.theory.specs.Rule.{entry, satisfies}
use Rattle.theory.specs.TableComputed.{reached_in, reached, digitals, candidates, cores, codes_from, transitions_of, macrostates_from, transitions_from}
use Rattle.rejecting_spec.specs.Rejecting.{lacks_initial}
use Rattle.rejecting_spec.specs.RejectingComputed.{rejecting_macrostates, rejecting_transitions}

-- what an evaluation unfolds
unfoldable computed : ℕ
unfolding is_accepting_lem macrostates_from transitions_from transitions_of codes_from cores candidates digitals tabulate flat keep among any_of insert_ascending sorted reached_in reached well_coded pack fields
    mask num goes before onward begun automaton set_in rank_in component_in classes_in every satisfies inside bit rank_of level_of settled_up_to settled rejecting_settled accepting_settled mix is_open taken
    some_below count first largest open_of_lem next_component_lem is_core_lem component components is_smallest smallest together reaches within leads named entry sum
computed = 0

-- a run begins where the set lacks the initial state, and nowhere else
pub lacks-F : begun (lacks_initial F) 0 ≡ true
unfolding computed
lacks-F = refl

pub holds-F : begun (lacks_initial F) 257 ≡ false
unfolding computed
holds-F = refl

-- F (some time letter 1) rejects letter 0 for ever: one macrostate, which goes over letter 0 to itself
pub codes-F : rejecting_macrostates F ≡ (0 ∷ [])
unfolding computed
codes-F = refl

pub moves-F : rejecting_transitions F ≡ (0 ∷ [])
unfolding computed
moves-F = refl

-- E (letter 0 for ever) rejects the words with some letter 1, which F accepts: as many macrostates as F's table has, and the same transitions
pub codes-E : rejecting_macrostates E ≡ (1 ∷ 256 ∷ 17592186044672 ∷ [])
unfolding computed
codes-E = refl

pub moves-E : rejecting_transitions E ≡ (0 ∷ 16777218 ∷ 16842752 ∷ 16842754 ∷ 33554434 ∷ 33619968 ∷ 33619969 ∷ [])
unfolding computed
moves-E = refl

-- Z rejects every word
pub codes-Z : rejecting_macrostates Z ≡ (1 ∷ 256 ∷ 17592186044672 ∷ [])
unfolding computed
codes-Z = refl
