-- What the judge of a sheet answers and writes, once the rule is read.
use Rattle.std.specs.Prelude.{◌≡◌, List, map, ℕ, length, Result}
use Rattle.refusals.specs.Rows.{first_refusal, first_row}
use Rattle.refusals.specs.declared.Refusal.{Refusal}
use Rattle.theory.specs.Rule.{Rule}
use Rattle.judge_spec.specs.Judge.{after}
use Rattle.sheet_spec.specs.Words.{words_of}
use Rattle.sheet_spec.specs.Sheet.{sheet_rows}
use Rattle.sheet_spec.specs.Computed.{answer_of, all_masks, cycle_count, totals}
use Rattle.sheet_spec.specs.declared.Totals.{Totals}

-- the number of the first of 24 and 16 that refuses, or 0
unfoldable pub called_row : List ℕ → ℕ → ℕ → ℕ
called_row sheet answers masks = first_row (sheet_rows sheet answers masks)

-- every word judged, and how many cycles were filled
pub record WordsJudged (r : Rule) (sheet answers masks answers' masks' : List ℕ) (cycles : ℕ) : Type 0 where
  pub answers_written : answers' ≡ after 0 (map (answer_of r) (words_of sheet)) answers
  pub masks_written : masks' ≡ after 0 (all_masks r (words_of sheet)) masks
  pub count : cycles ≡ cycle_count r.s (words_of sheet)

-- the answer v, and both slices before and after, for a rule that passes every check
pub record SheetCalled (r : Rule) (sheet answers masks answers' masks' : List ℕ) (v : Result Totals Refusal) : Type 0 where
  pub answered : v ≡ totals (first_refusal (sheet_rows sheet (length answers) (length masks))) (length (words_of sheet)) (cycle_count r.s (words_of sheet))
  pub answers_written : answers' ≡ after (called_row sheet (length answers) (length masks)) (map (answer_of r) (words_of sheet)) answers
  pub masks_written : masks' ≡ after (called_row sheet (length answers) (length masks)) (all_masks r (words_of sheet)) masks
