-- The listings of rule files, computed from their bytes.
use mathlib.Core.Path.{◌≡◌, refl}
use mathlib.Core.List.{[], ◌∷◌}
use Prim.Native.Nat.{ℕ}
use lib.ListN.{replicate}
use Rattle.sets.specs.Digits.{num}
use Rattle.sets.specs.Lists.{keep, among, any_of, sum, tabulate, flat, insert_ascending, sorted}
use Rattle.sets.specs.Masks.{bit, mask, inside}
use Rattle.refusals.specs.Rows.{refusal_at, first_row}
use Rattle.sets.specs.Tests.{every, some_below, count, first, largest}
use Rattle.theory.specs.Automaton.{automaton}
use Rattle.theory.specs.Code.{fields, pack, component_in, classes_in, set_in, rank_in, well_coded}
use Rattle.theory.specs.Components.{named, leads, within, reaches, together, smallest, is_smallest, component, components, mixed}
use Rattle.theory.specs.Core.{is_open, mix, rejecting_settled, accepting_settled, settled, settled_up_to, open_of_lem, next_component_lem}
use Rattle.theory.specs.CoreComputed.{level_of, taken, rank_of, is_core_lem}
use Rattle.theory.specs.Macrostate.{begun, is_accepting_lem}
use Rattle.theory.specs.MacrostateComputed.{before, onward, goes}
use Rattle.theory.specs.Rule.{entry, satisfies}
use Rattle.theory.specs.TableComputed.{reached_in, reached, digitals, candidates, cores, codes_from, transitions_of, macrostates_from, transitions_from}
use Rattle.file_spec.specs.File.{tagged, clauses_of_lem, counts_of_lem}
use Rattle.file_spec.specs.Names.{has_names_lem, names_before, repeats_name_lem}
use Rattle.file_spec.specs.Rows.{trailer_rows, layout_rows, body_rows, name_rows, preface_rows, file_rows_lem}
use Rattle.file_spec.specs.RuleRows.{number_rows, list_rows, nested, some_nested, clause_rows, component_rows, formed_rows}
use Rattle.build_lists.specs.Room.{room_of_lem}
use Rattle.build.specs.Built.{room_rows, row_from, built_by, built_from}
use Rattle.slice_text.specs.Decimal.{digits_in, decimal, word}
use Rattle.listing_lines_spec.specs.Lines.{built_line, m_line, t_line, n_line, refused_line, lines, table_text}
use Rattle.listing_spec.specs.Computed.{answer_text, listing_of}

-- what an evaluation unfolds
unfoldable computed : ℕ
unfolding listing_of answer_text table_text built_line m_line t_line n_line refused_line lines word decimal digits_in built_from built_by row_from room_rows room_of_lem file_rows_lem body_rows preface_rows name_rows has_names_lem
    names_before repeats_name_lem layout_rows trailer_rows number_rows list_rows formed_rows clause_rows some_nested nested component_rows first_row refusal_at tagged clauses_of_lem counts_of_lem mixed is_accepting_lem macrostates_from
    transitions_from transitions_of codes_from cores candidates digitals tabulate flat keep among any_of insert_ascending sorted reached_in reached well_coded pack fields mask num goes before onward begun
    automaton set_in rank_in component_in classes_in every satisfies inside bit rank_of level_of settled_up_to settled rejecting_settled accepting_settled mix is_open taken some_below count first largest open_of_lem
    next_component_lem is_core_lem component components is_smallest smallest together reaches within leads named entry sum
computed = 0

-- F: 01 shows these eleven lines
pub listing-F : listing_of (0x01 ∷ 0x00 ∷ 0x01 ∷ 0x01 ∷ 0x01 ∷ 0x02 ∷ 0x00 ∷ 0x00 ∷ 0x02 ∷ 0x00 ∷ 0x41 ∷ 0x57 ∷ []) ≡
    98 ∷ 117 ∷ 105 ∷ 108 ∷ 116 ∷ 32 ∷ 51 ∷ 32 ∷ 55 ∷ 10
    ∷ 109 ∷ 32 ∷ 48 ∷ 32 ∷ 48 ∷ 32 ∷ 45 ∷ 32 ∷ 97 ∷ 10
    ∷ 109 ∷ 32 ∷ 49 ∷ 32 ∷ 50 ∷ 53 ∷ 55 ∷ 32 ∷ 105 ∷ 32 ∷ 97 ∷ 10
    ∷ 109 ∷ 32 ∷ 50 ∷ 32 ∷ 49 ∷ 55 ∷ 53 ∷ 57 ∷ 50 ∷ 49 ∷ 56 ∷ 54 ∷ 48 ∷ 52 ∷ 52 ∷ 54 ∷ 55 ∷ 51 ∷ 32 ∷ 45 ∷ 32 ∷ 45 ∷ 10
    ∷ 116 ∷ 32 ∷ 48 ∷ 32 ∷ 48 ∷ 32 ∷ 48 ∷ 10
    ∷ 116 ∷ 32 ∷ 49 ∷ 32 ∷ 48 ∷ 32 ∷ 50 ∷ 10
    ∷ 116 ∷ 32 ∷ 49 ∷ 32 ∷ 49 ∷ 32 ∷ 48 ∷ 10
    ∷ 116 ∷ 32 ∷ 49 ∷ 32 ∷ 49 ∷ 32 ∷ 50 ∷ 10
    ∷ 116 ∷ 32 ∷ 50 ∷ 32 ∷ 48 ∷ 32 ∷ 50 ∷ 10
    ∷ 116 ∷ 32 ∷ 50 ∷ 32 ∷ 49 ∷ 32 ∷ 48 ∷ 10
    ∷ 116 ∷ 32 ∷ 50 ∷ 32 ∷ 49 ∷ 32 ∷ 49 ∷ 10 ∷ []
unfolding computed
listing-F = refl

-- I has two components: macrostates 2, 3 and 4 stand at component 1
pub listing-I : listing_of (0x03 ∷ 0x01 ∷ 0x02 ∷ 0x00 ∷ 0x01 ∷ 0x01 ∷ 0x01 ∷ 0x01 ∷ 0x02 ∷ 0x02 ∷ 0x00 ∷ 0x01 ∷ 0x04 ∷ 0x00 ∷ 0x41 ∷ 0x57 ∷ []) ≡
    98 ∷ 117 ∷ 105 ∷ 108 ∷ 116 ∷ 32 ∷ 53 ∷ 32 ∷ 57 ∷ 10
    ∷ 109 ∷ 32 ∷ 48 ∷ 32 ∷ 49 ∷ 32 ∷ 105 ∷ 32 ∷ 97 ∷ 10
    ∷ 109 ∷ 32 ∷ 49 ∷ 32 ∷ 52 ∷ 48 ∷ 57 ∷ 57 ∷ 32 ∷ 105 ∷ 32 ∷ 97 ∷ 10
    ∷ 109 ∷ 32 ∷ 50 ∷ 32 ∷ 49 ∷ 48 ∷ 57 ∷ 57 ∷ 53 ∷ 49 ∷ 49 ∷ 54 ∷ 50 ∷ 55 ∷ 55 ∷ 55 ∷ 55 ∷ 32 ∷ 45 ∷ 32 ∷ 97 ∷ 10
    ∷ 109 ∷ 32 ∷ 51 ∷ 32 ∷ 49 ∷ 48 ∷ 57 ∷ 57 ∷ 53 ∷ 49 ∷ 49 ∷ 54 ∷ 51 ∷ 49 ∷ 56 ∷ 55 ∷ 53 ∷ 32 ∷ 45 ∷ 32 ∷ 97 ∷ 10
    ∷ 109 ∷ 32 ∷ 52 ∷ 32 ∷ 49 ∷ 56 ∷ 54 ∷ 57 ∷ 49 ∷ 54 ∷ 57 ∷ 55 ∷ 54 ∷ 55 ∷ 54 ∷ 50 ∷ 57 ∷ 49 ∷ 32 ∷ 45 ∷ 32 ∷ 45 ∷ 10
    ∷ 116 ∷ 32 ∷ 49 ∷ 32 ∷ 48 ∷ 32 ∷ 52 ∷ 10
    ∷ 116 ∷ 32 ∷ 49 ∷ 32 ∷ 49 ∷ 32 ∷ 50 ∷ 10
    ∷ 116 ∷ 32 ∷ 49 ∷ 32 ∷ 49 ∷ 32 ∷ 52 ∷ 10
    ∷ 116 ∷ 32 ∷ 51 ∷ 32 ∷ 48 ∷ 32 ∷ 49 ∷ 10
    ∷ 116 ∷ 32 ∷ 51 ∷ 32 ∷ 49 ∷ 32 ∷ 48 ∷ 10
    ∷ 116 ∷ 32 ∷ 51 ∷ 32 ∷ 49 ∷ 32 ∷ 49 ∷ 10
    ∷ 116 ∷ 32 ∷ 52 ∷ 32 ∷ 48 ∷ 32 ∷ 52 ∷ 10
    ∷ 116 ∷ 32 ∷ 52 ∷ 32 ∷ 49 ∷ 32 ∷ 50 ∷ 10
    ∷ 116 ∷ 32 ∷ 52 ∷ 32 ∷ 49 ∷ 32 ∷ 51 ∷ 10 ∷ []
unfolding computed
listing-I = refl

-- Z: one macrostate, no transition
pub listing-Z : listing_of (0x00 ∷ 0x01 ∷ 0x01 ∷ 0x00 ∷ 0x01 ∷ 0x00 ∷ 0x00 ∷ 0x41 ∷ 0x57 ∷ []) ≡
    98 ∷ 117 ∷ 105 ∷ 108 ∷ 116 ∷ 32 ∷ 49 ∷ 32 ∷ 48 ∷ 10
    ∷ 109 ∷ 32 ∷ 48 ∷ 32 ∷ 49 ∷ 32 ∷ 105 ∷ 32 ∷ 97 ∷ 10 ∷ []
unfolding computed
listing-Z = refl

-- `refused 1`, of the file 41 57
pub listing-1 : listing_of (0x41 ∷ 0x57 ∷ []) ≡ 114 ∷ 101 ∷ 102 ∷ 117 ∷ 115 ∷ 101 ∷ 100 ∷ 32 ∷ 49 ∷ 10 ∷ []
unfolding computed
listing-1 = refl

-- `refused 11`, of 01's mixed component
pub listing-11 : listing_of (0x02 ∷ 0x01 ∷ 0x01 ∷ 0x01 ∷ 0x02 ∷ 0x01 ∷ 0x00 ∷ 0x01 ∷ 0x02 ∷ 0x00 ∷ 0x41 ∷ 0x57 ∷ []) ≡ 114 ∷ 101 ∷ 102 ∷ 117 ∷ 115 ∷ 101 ∷ 100 ∷ 32 ∷ 49 ∷ 49 ∷ 10 ∷ []
unfolding computed
listing-11 = refl

-- 4,096 bytes are read: `refused 2`
pub listing-4096 : listing_of (replicate 4096 0) ≡ 114 ∷ 101 ∷ 102 ∷ 117 ∷ 115 ∷ 101 ∷ 100 ∷ 32 ∷ 50 ∷ 10 ∷ []
unfolding computed
listing-4096 = refl

-- 4,097 are not: `long`
pub listing-4097 : listing_of (replicate 4097 0) ≡ 108 ∷ 111 ∷ 110 ∷ 103 ∷ 10 ∷ []
unfolding computed
listing-4097 = refl

-- Z for two letters with the names GO and STOP: a line for each letter right after line one
pub listing-names : listing_of (0x47 ∷ 0x4f ∷ 0x20 ∷ 0x20 ∷ 0x20 ∷ 0x20 ∷ 0x20 ∷ 0x20 ∷ 0x53 ∷ 0x54 ∷ 0x4f ∷ 0x50 ∷ 0x20 ∷ 0x20 ∷ 0x20 ∷ 0x20 ∷ 0x4e ∷ 0x4d ∷ 0x00 ∷ 0x00 ∷ 0x01 ∷ 0x02 ∷ 0x00 ∷ 0x01
    ∷ 0x00 ∷ 0x00 ∷ 0x41 ∷ 0x57 ∷ []) ≡
    98 ∷ 117 ∷ 105 ∷ 108 ∷ 116 ∷ 32 ∷ 49 ∷ 32 ∷ 48 ∷ 10
    ∷ 110 ∷ 32 ∷ 48 ∷ 32 ∷ 71 ∷ 79 ∷ 32 ∷ 32 ∷ 32 ∷ 32 ∷ 32 ∷ 32 ∷ 10
    ∷ 110 ∷ 32 ∷ 49 ∷ 32 ∷ 83 ∷ 84 ∷ 79 ∷ 80 ∷ 32 ∷ 32 ∷ 32 ∷ 32 ∷ 10
    ∷ 109 ∷ 32 ∷ 48 ∷ 32 ∷ 49 ∷ 32 ∷ 105 ∷ 32 ∷ 97 ∷ 10 ∷ []
unfolding computed
listing-names = refl
