-- What a call refuses, in order: the rule's rows, 14, 15, 16. A start has no letters. Set is given by its length.
use Rattle.std.specs.Prelude.{List, [], ◌∷◌, ◌++◌, ℕ, leb, ltb, length}
use Rattle.sets.specs.Lists.{any_of}
use Rattle.refusals.specs.Rows.{Check, check, first_row}
use Rattle.refusals.specs.declared.Refusal.TheVariants.{Letter, Slice}
use Rattle.file_spec.specs.File.{rule_in}
use Rattle.file_spec.specs.Rows.{file_rows_lem}
use Rattle.table_lent.specs.Lent.{Lent, table_rows_lem}

-- "14 if a letter is not below s"
unfoldable pub letter_rows : ℕ → List ℕ → List Check
letter_rows s letters = check (any_of letters (leb s)) Letter ∷ []

-- "16 if set is shorter than the macrostates"
unfoldable pub set_rows : ℕ → ℕ → List Check
set_rows n setLen = check (ltb setLen n) Slice ∷ []

-- behind the rule's rows, for a rule of s letters
unfoldable pub follow_call_rows : ℕ → List ℕ → Lent → Lent → ℕ → List Check
follow_call_rows s letters codes transitions setLen = letter_rows s letters ++ (table_rows_lem s codes transitions ++ set_rows (length codes.numbers) setLen)

-- the first of these that refuses, or 0
unfoldable pub follow_call_row : ℕ → List ℕ → Lent → Lent → ℕ → ℕ
follow_call_row s letters codes transitions setLen = first_row (follow_call_rows s letters codes transitions setLen)

-- all rows of the call
abbrev pub follow_rows : List ℕ → List ℕ → Lent → Lent → ℕ → List Check
follow_rows f letters codes transitions setLen = file_rows_lem f ++ follow_call_rows (rule_in f).s letters codes transitions setLen

-- the first row that refuses the call, or 0
unfoldable pub follow_row : List ℕ → List ℕ → Lent → Lent → ℕ → ℕ
follow_row f letters codes transitions setLen = first_row (follow_rows f letters codes transitions setLen)
