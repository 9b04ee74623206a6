-- The judge of words on a table, for a file: what it refuses and answers, and what is left of the scratch slice.
use Rattle.std.specs.Prelude.{◌≡◌, List, ◌++◌, ℕ, length, Result, Option}
use Rattle.refusals.specs.Rows.{Check, first_refusal, first_row}
use Rattle.refusals.specs.declared.Refusal.{Refusal}
use Rattle.theory.specs.Macrostate.{holds_initial}
use Rattle.file_spec.specs.File.{rule_in}
use Rattle.file_spec.specs.Rows.{file_rows_lem}
use Rattle.table_lent.specs.Lent.{Lent}
use Rattle.table_call.specs.Starts.{Begins}
use Rattle.table_call.specs.Calls.{call_rows, Answered, scratch_after_lem}

-- 01, "Refused, in order of checking": "Rule .., word, table, slices"
abbrev pub judge_table_rows : List ℕ → List ℕ → List ℕ → Lent → Lent → ℕ → List Check
judge_table_rows f lead cycle codes transitions m = file_rows_lem f ++ call_rows (rule_in f).s lead cycle codes transitions m

-- the first of them that refuses, or 0
unfoldable pub judge_table_row : List ℕ → List ℕ → List ℕ → Lent → Lent → ℕ → ℕ
judge_table_row f lead cycle codes transitions m = first_row (judge_table_rows f lead cycle codes transitions m)

-- the answer a, and the scratch slice before and after, for a file
pub record JudgedTable (f lead cycle : List ℕ) (codes transitions : Lent) (old new : List ℕ) (a : Result (Option ℕ) Refusal) : Type 0 where
  pub answer : Answered (first_refusal (judge_table_rows f lead cycle codes transitions (length old))) (Begins (holds_initial (rule_in f)) codes.numbers transitions.numbers lead cycle) a
  pub scratch : new ≡ scratch_after_lem (judge_table_row f lead cycle codes transitions (length old)) old
