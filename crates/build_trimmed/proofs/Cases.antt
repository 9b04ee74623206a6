-- Rule D from the bytes of its file: the trimmed counts, and 17 by the reachable table.
use mathlib.Core.Path.{◌≡◌, refl}
use mathlib.Core.List.{List, [], ◌∷◌}
use Prim.Native.Nat.{ℕ}
use Rattle.std.specs.Prelude.{Result, Ok, Err}
use Rattle.refusals.specs.declared.Refusal.{Refusal}
use Rattle.refusals.specs.declared.Refusal.TheVariants.{MacrostateRoom, TransitionRoom}
use Rattle.sets.specs.Digits.{num}
use Rattle.sets.specs.Lists.{keep, among, any_of, sum, tabulate, flat, insert_ascending, sorted}
use Rattle.sets.specs.Masks.{bit, mask, inside}
use Rattle.refusals.specs.Rows.{refusal_at, first_row}
use Rattle.sets.specs.Tests.{every, some_below, count, first, largest}
use Rattle.theory.specs.Automaton.{automaton}
use Rattle.theory.specs.Code.{fields, pack, component_in, classes_in, set_in, rank_in, well_coded}
use Rattle.theory.specs.Components.{named, leads, within, reaches, together, smallest, is_smallest, component, components, mixed}
use Rattle.theory.specs.Core.{is_open, mix, rejecting_settled, accepting_settled, settled, settled_up_to, open_of_lem, next_component_lem}
use Rattle.theory.specs.CoreComputed.{level_of, taken, rank_of, is_core_lem}
use Rattle.theory.specs.Macrostate.{begun, is_accepting_lem}
use Rattle.theory.specs.MacrostateComputed.{before, onward, goes}
use Rattle.theory.specs.Rule.{entry, satisfies}
use Rattle.theory.specs.TableComputed.{reached_in, reached, digitals, candidates, cores, codes_from, transitions_of, macrostates_from, transitions_from, macrostates, transitions}
use Rattle.file_spec.specs.File.{tagged, clauses_of_lem, counts_of_lem}
use Rattle.file_spec.specs.Rows.{trailer_rows, layout_rows, body_rows, name_rows, preface_rows, file_rows_lem}
use Rattle.file_spec.specs.RuleRows.{number_rows, list_rows, nested, some_nested, clause_rows, component_rows, formed_rows}
use Rattle.file_spec.specs.Names.{has_names_lem, names_before, repeats_name_lem}
use Rattle.build_lists.specs.Room.{room_of_lem}
use Rattle.build.specs.Built.{room_rows, row_from, built_by}
use Rattle.graph_walks.specs.Marks.{is_due, marked, is_new, goes_out_lem}
use Rattle.graph_walks.specs.Marks as marks
use Rattle.trim_spec.specs.Trimmed.{flag_of_lem, flags, swept, is_new_in, swept_out, settled_all, solved_in, live_marks, picked, trimmed_codes, trimmed_transitions}
use Rattle.build_trimmed.specs.Answers.{trimmed_of}

abbrev file_d : List ℕ
file_d = 0x02 ∷ 0x00 ∷ 0x01 ∷ 0x01 ∷ 0x00 ∷ 0x01 ∷ 0x01 ∷ 0x02 ∷ 0x02 ∷ 0x00 ∷ 0x00 ∷ 0x03 ∷ 0x00 ∷ 0x41 ∷ 0x57 ∷ []

-- what an evaluation unfolds
unfoldable computed : ℕ
unfolding trimmed_of trimmed_codes trimmed_transitions flag_of_lem flags swept is_new_in swept_out settled_all solved_in live_marks picked is_due marked is_new goes_out_lem marks.settled built_by refusal_at row_from room_rows room_of_lem
    file_rows_lem body_rows formed_rows clause_rows some_nested nested preface_rows name_rows has_names_lem names_before repeats_name_lem layout_rows trailer_rows number_rows list_rows component_rows first_row tagged clauses_of_lem
    counts_of_lem mixed is_accepting_lem macrostates_from transitions_from transitions_of codes_from cores candidates digitals tabulate flat keep among any_of insert_ascending sorted reached_in reached well_coded pack
    fields mask num goes before onward begun automaton set_in rank_in component_in classes_in every satisfies inside bit rank_of level_of settled_up_to settled rejecting_settled accepting_settled mix is_open
    taken some_below count first largest open_of_lem next_component_lem is_core_lem component components is_smallest smallest together reaches within leads named entry sum
computed = 0

-- "Rule D shrinks from 13 and 26 to 6 and 12."
pub trimmed-D : trimmed_of file_d 13 26 ≡ Ok (record { macrostates = 6; transitions = 12 })
unfolding computed
trimmed-D = refl

-- "17 and 18 count the reachable table first": room for 12 would do for 6
pub seventeen-D : trimmed_of file_d 12 26 ≡ Err MacrostateRoom
unfolding computed
seventeen-D = refl

pub eighteen-D : trimmed_of file_d 13 25 ≡ Err TransitionRoom
unfolding computed
eighteen-D = refl
