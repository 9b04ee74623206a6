-- What the definitions give for examples; F is 01's rule "some time letter 1".
use mathlib.Core.Path.{◌≡◌, refl}
use mathlib.Core.List.{List, [], ◌∷◌, ◌++◌, map}
use Prim.Native.Nat.{ℕ}
use lib.ListN.{replicate}
use Rattle.sets.specs.Lists.{any_of, sum, tabulate}
use Rattle.sets.specs.Masks.{bit, mask, inside}
use Rattle.refusals.specs.Rows.{first_refusal, first_row}
use Rattle.sets.specs.Tests.{every, some_below, count, first}
use Rattle.theory.specs.Rule.{entry, satisfies}
use Rattle.theory.specs.Components.{named, leads, within, reaches, together, mixed}
use Rattle.theory.specs.Truth.{height_of, layer, rounds_at, solved_below, truth_masks}
use Rattle.theory.specs.Word.{next_place_lem, letter_at_lem, place}
use Rattle.file_spec.specs.File.{tagged, clauses_of_lem, counts_of_lem, rule_in}
use Rattle.file_spec.specs.Names.{has_names_lem, names_before, repeats_name_lem}
use Rattle.file_spec.specs.Rows.{trailer_rows, layout_rows, body_rows, name_rows, preface_rows, file_rows_lem}
use Rattle.file_spec.specs.RuleRows.{number_rows, list_rows, nested, some_nested, clause_rows, component_rows, formed_rows}
use Rattle.word_rows.specs.Words.{letter_rows}
use Rattle.slice_search.specs.Same.{same_lists}
use Rattle.word_spelling_spec.specs.SpellingComputed.{comes_again_lem, cycle_length_lem, shortened, lead_length_lem, tidy_cycle}
use Rattle.sheet_spec.specs.Words.{lone, spelled, words_in, words_of, lead_of, cycle_of, length_faults, fault_of}
use Rattle.sheet_spec.specs.Sheet.{sheet_rows, sheet_row}
use Rattle.sheet_spec.specs.Computed.{answer_of, masks_of_lem, all_masks, is_known, learn, cycles_after, cycle_count, sheet_of}
use Rattle.std.specs.Prelude.{Ok, Err}
use Rattle.refusals.specs.declared.Refusal.TheVariants.{Slice}

-- what an evaluation unfolds
unfoldable computed : ℕ
unfolding sheet_rows cycle_count cycles_after learn is_known same_lists words_of words_in lead_of cycle_of fault_of length_faults first_refusal first_row letter_rows any_of tidy_cycle lead_length_lem cycle_length_lem comes_again_lem
    shortened every first letter_at_lem next_place_lem place
computed = 0

-- and what it unfolds of a rule and a word
unfoldable judged : ℕ
unfolding answer_of masks_of_lem all_masks sheet_of sheet_row file_rows_lem body_rows preface_rows name_rows has_names_lem names_before repeats_name_lem layout_rows trailer_rows number_rows list_rows formed_rows clause_rows
    some_nested nested component_rows tagged clauses_of_lem counts_of_lem sum mixed together truth_masks solved_below rounds_at layer height_of reaches within leads named entry satisfies tabulate bit mask inside
    some_below count
judged = 0

-- a word, then one that the sheet's end cuts off
pub two-words : words_of (1 ∷ 2 ∷ 0 ∷ 1 ∷ 0 ∷ (0 ∷ 2 ∷ 1 ∷ [])) ≡ spelled 1 2 (0 ∷ 1 ∷ 0 ∷ []) ∷ (spelled 0 2 (1 ∷ []) ∷ [])
unfolding computed
two-words = refl

-- the next word begins after as many letters as the two bytes say, though the word is faulty
pub after-a-faulty-word : words_of (1 ∷ 0 ∷ 7 ∷ (0 ∷ 1 ∷ 0 ∷ [])) ≡ spelled 1 0 (7 ∷ []) ∷ (spelled 0 1 (0 ∷ []) ∷ [])
unfolding computed
after-a-faulty-word = refl

-- 13 for a cut-off word, also with a letter that is not below s, and for a lone length byte; 12 for a cut-off word with no cycle
pub cut_off : fault_of 2 (spelled 0 2 (7 ∷ [])) ≡ 13
unfolding computed
cut_off = refl

pub lone-byte : fault_of 2 (lone 0) ≡ 13
unfolding computed
lone-byte = refl

pub cut-off-no-cycle : fault_of 2 (spelled 3 0 (0 ∷ [])) ≡ 12
unfolding computed
cut-off-no-cycle = refl

pub letter-over : fault_of 2 (spelled 0 1 (2 ∷ [])) ≡ 14
unfolding computed
letter-over = refl

-- lead-in 0 with cycle 1 0, cycle 0 1, and cycle 0 1 0 1 share their tidy cycle; its rotation 1 0 is another; a faulty word adds none
pub shared-cycles : cycle_count 2 (words_of (1 ∷ 2 ∷ 0 ∷ 1 ∷ 0 ∷ (0 ∷ 2 ∷ 0 ∷ 1 ∷ (0 ∷ 4 ∷ 0 ∷ 1 ∷ 0 ∷ 1 ∷ (0 ∷ 2 ∷ 1 ∷ 0 ∷ (0 ∷ 1 ∷ 2 ∷ (0 ∷ []))))))) ≡ 2
unfolding computed
shared-cycles = refl

-- 24 before 16: a sheet of 65 words, and slices of no bytes
pub too-many-words : first_row (sheet_rows (replicate 130 0) 0 0) ≡ 24
unfolding computed
too-many-words = refl

pub enough-words : first_row (sheet_rows (replicate 128 0) 63 4096) ≡ 16
unfolding computed
enough-words = refl

-- the next word begins after all letters of one that has too many
pub after-a-long-word : words_of (33 ∷ 33 ∷ (replicate 66 1 ++ (0 ∷ 1 ∷ 0 ∷ []))) ≡ spelled 33 33 (replicate 66 1) ∷ (spelled 0 1 (0 ∷ []) ∷ [])
unfolding computed
after-a-long-word = refl

-- ---- by the rule F

pub F : List ℕ
F = 0x01 ∷ 0x00 ∷ 0x01 ∷ 0x01 ∷ 0x01 ∷ 0x02 ∷ 0x00 ∷ 0x00 ∷ 0x02 ∷ 0x00 ∷ 0x41 ∷ 0x57 ∷ []

-- lead-in 0 1 with cycle 0, then a faulty word, then cycle 0, then a lone byte
pub sheet : List ℕ
sheet = 2 ∷ 1 ∷ 0 ∷ 1 ∷ 0 ∷ (1 ∷ 0 ∷ 1 ∷ (0 ∷ 1 ∷ 0 ∷ (7 ∷ [])))

pub answers : map (answer_of (rule_in F)) (words_of sheet) ≡ 1 ∷ 12 ∷ 0 ∷ 13 ∷ []
unfolding F sheet computed judged
answers = refl

pub masks : all_masks (rule_in F) (words_of sheet) ≡ 0x01 ∷ 0x01 ∷ (0x00 ∷ replicate 61 0) ++ (replicate 64 0 ++ (replicate 64 0 ++ replicate 64 0))
unfolding F sheet computed judged
masks = refl

pub totals-of : sheet_of F sheet 4 256 ≡ Ok (record { words = 4; cycles = 1 })
unfolding F sheet computed judged
totals-of = refl

-- a slice of masks a byte short
pub masks-short : sheet_of F sheet 4 255 ≡ Err Slice
unfolding F sheet computed judged
masks-short = refl
