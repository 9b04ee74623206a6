-- The rows of the comparison on 01's rules from the bytes of their files, and the slices by the row.
use mathlib.Core.Path.{◌≡◌, refl}
use mathlib.Core.List.{List, [], ◌∷◌}
use Prim.Native.Nat.{ℕ}
use native.Mathlib.Omega.{arith}
use lib.ListN.{replicate}
use Rattle.std.specs.Prelude.{Ok}
use Rattle.sets.specs.Digits.{num}
use Rattle.sets.specs.Lists.{keep, among, any_of, sum, tabulate, flat, insert_ascending, sorted}
use Rattle.sets.specs.Masks.{bit, mask, inside}
use Rattle.refusals.specs.Rows.{first_row}
use Rattle.sets.specs.Tests.{every, some_below, count, first, largest}
use Rattle.theory.specs.Automaton.{automaton}
use Rattle.theory.specs.Code.{fields, pack, component_in, classes_in, set_in, rank_in, well_coded}
use Rattle.theory.specs.Components.{named, leads, within, reaches, together, smallest, is_smallest, component, components, mixed}
use Rattle.theory.specs.Core.{is_open, mix, rejecting_settled, accepting_settled, settled, settled_up_to, open_of_lem, next_component_lem}
use Rattle.theory.specs.CoreComputed.{level_of, taken, rank_of, is_core_lem}
use Rattle.theory.specs.Examples.{E, F}
use Rattle.theory.specs.Macrostate.{begun, is_accepting_lem}
use Rattle.theory.specs.MacrostateComputed.{before, onward, goes}
use Rattle.theory.specs.Rule.{entry, satisfies}
use Rattle.theory.specs.TableComputed.{reached_in, reached, digitals, candidates, cores, codes_from, transitions_of, macrostates_from, transitions_from}
use Rattle.file_spec.specs.File.{tagged, clauses_of_lem, counts_of_lem}
use Rattle.file_spec.specs.Rows.{trailer_rows, layout_rows, body_rows, name_rows, preface_rows, file_rows_lem}
use Rattle.file_spec.specs.RuleRows.{number_rows, list_rows, nested, some_nested, clause_rows, component_rows, formed_rows}
use Rattle.file_spec.specs.Names.{has_names_lem, names_before, repeats_name_lem}
use Rattle.build_lists.specs.Room.{room_of_lem}
use Rattle.build.specs.Built.{room_rows, room_after}
use Rattle.stricter_spec.proofs.RulesCases.{against-F, not-stricter-F}
use Rattle.stricter_entry_spec.specs.declared.BothCounts.{BothCounts}
use Rattle.stricter_entry_spec.specs.declared.Comparison.TheVariants.{Yes, No}
use Rattle.stricter_entry_spec.specs.Rows.{Slices, slices_of, tables_of, pairs, alphabet_rows, both_room_rows, pair_rows, rules_rows, stricter_row, zeroes_rooms, scratch_left}
use Rattle.stricter_entry_spec.specs.Compared.{sizes_of, Told}

abbrev file_f : List ℕ
file_f = 0x01 ∷ 0x00 ∷ 0x01 ∷ 0x01 ∷ 0x01 ∷ 0x02 ∷ 0x00 ∷ 0x00 ∷ 0x02 ∷ 0x00 ∷ 0x41 ∷ 0x57 ∷ []

abbrev file_e : List ℕ
file_e = 0x01 ∷ 0x01 ∷ 0x00 ∷ 0x01 ∷ 0x02 ∷ 0x00 ∷ 0x01 ∷ 0x01 ∷ 0x00 ∷ 0x41 ∷ 0x57 ∷ []

abbrev file_z : List ℕ
file_z = 0x00 ∷ 0x01 ∷ 0x01 ∷ 0x00 ∷ 0x01 ∷ 0x00 ∷ 0x00 ∷ 0x41 ∷ 0x57 ∷ []

-- slices of these lengths
abbrev lengths : ℕ → ℕ → ℕ → ℕ → ℕ → ℕ → Slices
lengths ca ta cb tb word scratch = slices_of (replicate ca 9) (replicate ta 9) (replicate cb 9) (replicate tb 9) (replicate word 9) (replicate scratch 9)

-- what an evaluation unfolds
unfoldable computed : ℕ
unfolding stricter_row rules_rows alphabet_rows both_room_rows pair_rows pairs room_after scratch_left sizes_of room_rows room_of_lem file_rows_lem body_rows formed_rows clause_rows some_nested nested preface_rows name_rows
    has_names_lem names_before repeats_name_lem layout_rows trailer_rows number_rows list_rows component_rows first_row tagged clauses_of_lem counts_of_lem mixed is_accepting_lem macrostates_from transitions_from transitions_of
    codes_from cores candidates digitals tabulate flat keep among any_of insert_ascending sorted reached_in reached well_coded pack fields mask num goes before onward begun automaton set_in rank_in
    component_in classes_in every satisfies inside bit rank_of level_of settled_up_to settled rejecting_settled accepting_settled mix is_open taken some_below count first largest open_of_lem next_component_lem is_core_lem
    component components is_smallest smallest together reaches within leads named entry sum
computed = 0

-- ---- the rows: F's own table has 3 macrostates and 7 transitions, that of the words that E rejects has 3 and 7, so P is 9

pub served-FE : stricter_row file_f file_e (lengths 3 7 3 7 27 9) ≡ 0
unfolding computed
served-FE = refl

-- "the word slice under 3 × P letters or the scratch under P bytes"
pub short-word : stricter_row file_f file_e (lengths 3 7 3 7 26 9) ≡ 29
unfolding computed
short-word = refl

pub short-scratch : stricter_row file_f file_e (lengths 3 7 3 7 27 8) ≡ 29
unfolding computed
short-scratch = refl

-- "17 and 18 go by A's reachable table, then B's": A's 18 comes before B's 17
pub room-of-A : stricter_row file_f file_e (lengths 3 6 2 7 0 0) ≡ 18
unfolding computed
room-of-A = refl

pub room-of-B : stricter_row file_f file_e (lengths 3 7 2 6 0 0) ≡ 17
unfolding computed
room-of-B = refl

-- "28, different s, after both rules"
pub different-letters : stricter_row file_f file_z (lengths 0 0 0 0 0 0) ≡ 28
unfolding computed
different-letters = refl

-- ---- the slices

pub zeroed-29 : room_after zeroes_rooms 29 (5 ∷ []) (9 ∷ 9 ∷ []) ≡ (0 ∷ 0 ∷ [])
unfolding computed
zeroed-29 = refl

pub kept-28 : room_after zeroes_rooms 28 (5 ∷ []) (9 ∷ 9 ∷ []) ≡ (9 ∷ 9 ∷ [])
unfolding computed
kept-28 = refl

pub table-left : room_after zeroes_rooms 0 (5 ∷ []) (9 ∷ 9 ∷ []) ≡ (5 ∷ 0 ∷ [])
unfolding computed
table-left = refl

pub scratch-served : scratch_left 0 (9 ∷ 9 ∷ []) ≡ (0 ∷ 0 ∷ [])
unfolding computed
scratch-served = refl

pub scratch-refused : scratch_left 29 (9 ∷ 9 ∷ []) ≡ (9 ∷ 9 ∷ [])
unfolding computed
scratch-refused = refl

-- ---- the answer

-- every rule is as strict as itself, and the word slice is left as it was
pub yes-E : Told E E (tables_of E E) (Ok tt) (Ok (Yes (sizes_of (tables_of E E)))) (7 ∷ 8 ∷ 9 ∷ []) (7 ∷ 8 ∷ 9 ∷ [])
yes-E = (refl, refl, λ lead cycle W accepted. accepted)

-- E accepts letter 0 for ever and F rejects it: no lead-in, a cycle of one letter, and nothing else in the slice is changed
pub no-EF : Told E F (tables_of E F) (Ok tt) (Ok (No (sizes_of (tables_of E F)) 0 1)) (7 ∷ 8 ∷ 9 ∷ []) (0 ∷ 8 ∷ 9 ∷ [])
unfolding computed
no-EF = (refl, record { lead = []; cycle = 0 ∷ []; lead_long = refl; cycle_long = refl; letters = refl; short = omega arith; against = against-F })

-- so yes may not be said of them
pub not-yes-EF : (sizes : BothCounts) (old new : List ℕ) → Told E F (tables_of E F) (Ok tt) (Ok (Yes sizes)) old new → ⊥
not-yes-EF sizes old new t = not-stricter-F t.2
