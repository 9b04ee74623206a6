-- Cases 5 to 9 of 01, and two refusals: what the judge answers and writes, from the bytes of the rules F, I and D.
use mathlib.Core.Path.{◌≡◌, refl}
use mathlib.Core.List.{List, [], ◌∷◌}
use Prim.Native.Nat.{ℕ}
use lib.ListN.{length}
use Rattle.sets.specs.Tests.{every, some_below, count}
use Rattle.sets.specs.Masks.{bit, mask, inside}
use Rattle.sets.specs.Lists.{any_of, sum, tabulate}
use Rattle.refusals.specs.Rows.{first_refusal, first_row}
use Rattle.theory.specs.Rule.{entry, satisfies}
use Rattle.theory.specs.Components.{named, leads, within, reaches, together, mixed}
use Rattle.theory.specs.Word.{next_place_lem, letter_at_lem}
use Rattle.theory.specs.Truth.{height_of, layer, rounds_at, solved_below, truth_masks}
use Rattle.file_spec.specs.File.{tagged, clauses_of_lem, counts_of_lem, rule_in}
use Rattle.file_spec.specs.Names.{has_names_lem, names_before, repeats_name_lem}
use Rattle.file_spec.specs.Rows.{trailer_rows, layout_rows, body_rows, name_rows, preface_rows, file_rows_lem}
use Rattle.file_spec.specs.RuleRows.{number_rows, list_rows, nested, some_nested, clause_rows, component_rows, formed_rows}
use Rattle.word_rows.specs.Words.{length_rows, letter_rows, word_rows_lem}
use Rattle.std.specs.Prelude.{Result, Ok, Err, Bool, true, false}
use Rattle.refusals.specs.declared.Refusal.{Refusal}
use Rattle.refusals.specs.declared.Refusal.TheVariants.{Letter, Slice}
use Rattle.judge_spec.specs.Judge.{slice_rows, judge_row, judge_of, after}

F : List ℕ
F = 0x01 ∷ 0x00 ∷ 0x01 ∷ 0x01 ∷ 0x01 ∷ 0x02 ∷ 0x00 ∷ 0x00 ∷ 0x02 ∷ 0x00 ∷ 0x41 ∷ 0x57 ∷ []

I : List ℕ
I = 0x03 ∷ 0x01 ∷ 0x02 ∷ 0x00 ∷ 0x01 ∷ 0x01 ∷ 0x01 ∷ 0x01 ∷ 0x02 ∷ 0x02 ∷ 0x00 ∷ 0x01 ∷ 0x04 ∷ 0x00 ∷ 0x41 ∷ 0x57 ∷ []

D : List ℕ
D = 0x02 ∷ 0x00 ∷ 0x01 ∷ 0x01 ∷ 0x00 ∷ 0x01 ∷ 0x01 ∷ 0x02 ∷ 0x02 ∷ 0x00 ∷ 0x00 ∷ 0x03 ∷ 0x00 ∷ 0x41 ∷ 0x57 ∷ []

-- what an evaluation unfolds
unfoldable computed : ℕ
unfolding F I D judge_of judge_row after first_refusal first_row file_rows_lem body_rows preface_rows name_rows has_names_lem names_before repeats_name_lem layout_rows trailer_rows number_rows list_rows
    formed_rows clause_rows some_nested nested component_rows word_rows_lem slice_rows length_rows letter_rows tagged clauses_of_lem counts_of_lem any_of sum mixed together truth_masks
    solved_below rounds_at layer height_of next_place_lem letter_at_lem reaches within leads named entry satisfies tabulate bit mask inside every some_below count
computed = 0

-- the judge answers v and makes new of the slice old
record Case (f lead cycle : List ℕ) (v : Result Bool Refusal) (old new : List ℕ) : Type 0 where
  answers : judge_of f lead cycle (length old) ≡ v
  writes : after (judge_row f lead cycle (length old)) (truth_masks (rule_in f) lead cycle) old ≡ new

-- 5: "F, lead-in 0 1, cycle 0: yes, masks 01 01 00"; the byte after them stays
case-5 : Case F (0 ∷ 1 ∷ []) (0 ∷ []) (Ok true) (9 ∷ 9 ∷ 9 ∷ 9 ∷ []) (0x01 ∷ 0x01 ∷ 0x00 ∷ 9 ∷ [])
unfolding computed
case-5 = record { answers = refl; writes = refl }

-- 6: "F, cycle 0: no, 00"
case-6 : Case F [] (0 ∷ []) (Ok false) (9 ∷ 9 ∷ []) (0x00 ∷ 9 ∷ [])
unfolding computed
case-6 = record { answers = refl; writes = refl }

-- 7: "I, lead-in 1, cycle 0: no, 02 00"
case-7 : Case I (1 ∷ []) (0 ∷ []) (Ok false) (9 ∷ 9 ∷ []) (0x02 ∷ 0x00 ∷ [])
unfolding computed
case-7 = record { answers = refl; writes = refl }

-- 8: "I, cycle 0 1: yes, 03 03"
case-8 : Case I [] (0 ∷ 1 ∷ []) (Ok true) (9 ∷ 9 ∷ []) (0x03 ∷ 0x03 ∷ [])
unfolding computed
case-8 = record { answers = refl; writes = refl }

-- 9: "D, cycle 0: yes, 03"
case-9 : Case D [] (0 ∷ []) (Ok true) (9 ∷ 9 ∷ []) (0x03 ∷ 9 ∷ [])
unfolding computed
case-9 = record { answers = refl; writes = refl }

-- 14: "02 for rule F"
row-14 : Case F [] (2 ∷ []) (Err Letter) (9 ∷ []) (9 ∷ [])
unfolding computed
row-14 = record { answers = refl; writes = refl }

-- 16: "1 byte for 2 places"
row-16 : Case F (0 ∷ []) (0 ∷ []) (Err Slice) (9 ∷ []) (9 ∷ [])
unfolding computed
row-16 = record { answers = refl; writes = refl }
