-- The rows of a file and a call: which part refuses first.
use mathlib.Core.Path.{◌≡◌, refl}
use mathlib.Core.List.{List, [], ◌∷◌}
use Prim.Native.Nat.{ℕ}
use Rattle.file_spec.specs.File.{rule_in}
use Rattle.refusals.specs.Rows.{first_refusal, first_row}
use Rattle.file_spec.specs.Rows.{trailer_rows, layout_rows, body_rows, file_rows_lem, file_row}
use Rattle.std.specs.Prelude.{Ok, Err}
use Rattle.refusals.specs.declared.Refusal.{Refusal}
use Rattle.refusals.proofs.Rows.{first-parts, refusal-left, refusal-right}
use Rattle.file_read.proofs.FileRows.{file-numbered}
use Rattle.word_rows.specs.Words.{length_rows, word_rows_lem}
use Rattle.table_lent.specs.Lent.{Lent, in_words}
use Rattle.table_call.specs.Calls.{call_rows, call_row_lem}
use Rattle.table_judge.specs.Tables.{judge_table_rows, judge_table_row}

-- ---- example

-- the file is tried first: 41 57 is refused by row 1, whatever the word and the table
file-first : judge_table_row (0x41 ∷ 0x57 ∷ []) [] [] (in_words []) (in_words []) 0 ≡ 1
unfolding judge_table_row call_rows word_rows_lem length_rows file_rows_lem body_rows layout_rows trailer_rows first_row in_words
file-first = refl

-- ---- which part refuses

module _ (f lead cycle : List ℕ) (codes transitions : Lent) (m : ℕ) where
  -- the rows of the rule
  pub file-refuses : (r : Refusal) → first_refusal (file_rows_lem f) ≡ Err r → first_refusal (judge_table_rows f lead cycle codes transitions m) ≡ Err r
  file-refuses r e = refusal-left (file_rows_lem f) _ r e

  pub file-passes : first_refusal (file_rows_lem f) ≡ Ok tt
      → first_refusal (judge_table_rows f lead cycle codes transitions m) ≡ first_refusal (call_rows (rule_in f).s lead cycle codes transitions m)
  file-passes e = refusal-right (file_rows_lem f) _ e

  pub file-passed : judge_table_row f lead cycle codes transitions m ≡ 0 → (file_row f ≡ 0) × (call_row_lem (rule_in f).s lead cycle codes transitions m ≡ 0)
  unfolding judge_table_row call_row_lem file_row
  file-passed e = first-parts (file_rows_lem f) _ (file-numbered f) e
