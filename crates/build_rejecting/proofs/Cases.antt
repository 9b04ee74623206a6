-- Rule E from the bytes of its file: its own automaton has one macrostate and one transition, this one has 3 and 7.
use mathlib.Core.Path.{◌≡◌, refl}
use mathlib.Core.List.{List, [], ◌∷◌}
use Prim.Native.Nat.{ℕ}
use Rattle.std.specs.Prelude.{Result, Ok, Err}
use Rattle.refusals.specs.declared.Refusal.{Refusal}
use Rattle.refusals.specs.declared.Refusal.TheVariants.{MacrostateRoom, TransitionRoom}
use Rattle.sets.specs.Digits.{num}
use Rattle.sets.specs.Lists.{keep, among, any_of, sum, tabulate, flat, insert_ascending, sorted}
use Rattle.sets.specs.Masks.{bit, mask, inside}
use Rattle.refusals.specs.Rows.{refusal_at, first_row}
use Rattle.sets.specs.Tests.{every, some_below, count, first, largest}
use Rattle.theory.specs.Automaton.{automaton}
use Rattle.theory.specs.Code.{fields, pack, component_in, classes_in, set_in, rank_in, well_coded}
use Rattle.theory.specs.Components.{named, leads, within, reaches, together, smallest, is_smallest, component, components, mixed}
use Rattle.theory.specs.Core.{is_open, mix, rejecting_settled, accepting_settled, settled, settled_up_to, open_of_lem, next_component_lem}
use Rattle.theory.specs.CoreComputed.{level_of, taken, rank_of, is_core_lem}
use Rattle.theory.specs.Macrostate.{begun, is_accepting_lem}
use Rattle.theory.specs.MacrostateComputed.{before, onward, goes}
use Rattle.theory.specs.Rule.{entry, satisfies}
use Rattle.theory.specs.TableComputed.{reached_in, reached, digitals, candidates, cores, codes_from, transitions_of, macrostates_from, transitions_from}
use Rattle.file_spec.specs.File.{tagged, clauses_of_lem, counts_of_lem}
use Rattle.file_spec.specs.Rows.{trailer_rows, layout_rows, body_rows, name_rows, preface_rows, file_rows_lem}
use Rattle.file_spec.specs.RuleRows.{number_rows, list_rows, nested, some_nested, clause_rows, component_rows, formed_rows}
use Rattle.file_spec.specs.Names.{has_names_lem, names_before, repeats_name_lem}
use Rattle.build_lists.specs.Room.{room_of_lem}
use Rattle.build.specs.Built.{room_rows, built_by, room_after, row_from, built_from, codes_after_from, transitions_after_from}
use Rattle.build_rejecting.specs.Answers.{rejecting_of, rejecting_codes_after, rejecting_transitions_after}

abbrev file_e : List ℕ
file_e = 0x01 ∷ 0x01 ∷ 0x00 ∷ 0x01 ∷ 0x02 ∷ 0x00 ∷ 0x01 ∷ 0x01 ∷ 0x00 ∷ 0x41 ∷ 0x57 ∷ []

-- what an evaluation unfolds
unfoldable computed : ℕ
unfolding row_from built_from codes_after_from transitions_after_from room_after built_by refusal_at room_rows room_of_lem file_rows_lem body_rows formed_rows clause_rows some_nested nested preface_rows name_rows has_names_lem names_before
    repeats_name_lem layout_rows trailer_rows number_rows list_rows component_rows first_row tagged clauses_of_lem counts_of_lem mixed is_accepting_lem macrostates_from transitions_from transitions_of codes_from cores candidates
    digitals tabulate flat keep among any_of insert_ascending sorted reached_in reached well_coded pack fields mask num goes before onward begun automaton set_in rank_in component_in classes_in every
    satisfies inside bit rank_of level_of settled_up_to settled rejecting_settled accepting_settled mix is_open taken some_below count first largest open_of_lem next_component_lem is_core_lem component components
    is_smallest smallest together reaches within leads named entry sum
computed = 0

-- E rejects the words with some letter 1
pub rejecting-E : rejecting_of file_e 3 7 ≡ Ok (record { macrostates = 3; transitions = 7 })
unfolding computed
rejecting-E = refl

pub codes-E : rejecting_codes_after file_e (9 ∷ 9 ∷ 9 ∷ 9 ∷ []) 7 ≡ (1 ∷ 256 ∷ 17592186044672 ∷ 0 ∷ [])
unfolding computed
codes-E = refl

-- 17 and 18 go by this table
pub seventeen-E : rejecting_of file_e 2 7 ≡ Err MacrostateRoom
unfolding computed
seventeen-E = refl

pub eighteen-E : rejecting_of file_e 3 6 ≡ Err TransitionRoom
unfolding computed
eighteen-E = refl

pub zero-E : rejecting_transitions_after file_e 2 (9 ∷ 9 ∷ []) ≡ (0 ∷ 0 ∷ [])
unfolding computed
zero-E = refl
