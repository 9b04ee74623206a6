-- 02: "its macrostates may differ in number": seven of a rule, five of the tidied rule, computed from the definitions.
use mathlib.Core.Path.{◌≡◌, refl}
use mathlib.Core.List.{[], ◌∷◌}
use Prim.Native.Nat.{ℕ}
use Rattle.sets.specs.Digits.{num}
use Rattle.sets.specs.Lists.{keep, among, any_of, sum, tabulate, flat, insert_ascending, sorted}
use Rattle.sets.specs.Masks.{bit, mask, inside}
use Rattle.sets.specs.Tests.{every, some_below, count, first, largest}
use Rattle.theory.specs.Automaton.{automaton}
use Rattle.theory.specs.Code.{fields, pack, component_in, classes_in, set_in, rank_in, well_coded}
use Rattle.theory.specs.Components.{named, leads, within, reaches, together, smallest, is_smallest, component, components}
use Rattle.theory.specs.Core.{is_open, mix, rejecting_settled, accepting_settled, settled, settled_up_to, open_of_lem, next_component_lem}
use Rattle.theory.specs.CoreComputed.{level_of, taken, rank_of, is_core_lem}
use Rattle.theory.specs.Macrostate.{begun}
use Rattle.theory.specs.MacrostateComputed.{before, onward, goes}
use Rattle.theory.specs.Rule.{entry, satisfies}
use Rattle.theory.specs.TableComputed.{reached_in, reached, digitals, candidates, cores, codes_from, macrostates_from, macrostates}
use Rattle.rule_tidy_spec.proofs.Cases.{glued, split}

-- what the evaluation of a rule's macrostates unfolds
unfoldable built : ℕ
unfolding macrostates_from codes_from cores candidates digitals tabulate flat keep among any_of insert_ascending sorted reached_in reached well_coded pack fields mask num goes before onward begun automaton
    set_in rank_in component_in classes_in every satisfies inside bit rank_of level_of settled_up_to settled rejecting_settled accepting_settled mix is_open taken some_below count first largest open_of_lem
    next_component_lem is_core_lem component components is_smallest smallest together reaches within leads named entry sum
built = 0

pub macrostates-glued : macrostates glued ≡ 257 ∷ 4355 ∷ 4611 ∷ 8451 ∷ 17592186048771 ∷ 35184372093443 ∷ 35184372097283 ∷ []
macrostates-glued = unfold built in refl

pub macrostates-split : macrostates split ≡ 257 ∷ 4355 ∷ 1099511632131 ∷ 17592186048771 ∷ 18691697676547 ∷ []
macrostates-split = unfold built in refl
