-- What the judge of a sheet of words refuses.
use Rattle.std.specs.Prelude.{◌||◌, List, [], ◌∷◌, ◌++◌, ℕ, ◌*◌, ltb, length, Bool, true, false, Result, Ok, Err}
use Rattle.refusals.specs.Rows.{Check, check, number_of, first_row}
use Rattle.refusals.specs.declared.Refusal.{Refusal}
use Rattle.refusals.specs.declared.Refusal.TheVariants.{Slice, Words}
use Rattle.file_spec.specs.Rows.{file_rows_lem}
use Rattle.sheet_spec.specs.Words.{words_of}

-- 02: "24, sheet of more than 64 words, right after the rule's checks", then 16, "result or scratch slice too short": answers and masks are the slices' lengths
unfoldable pub sheet_rows : List ℕ → ℕ → ℕ → List Check
sheet_rows sheet answers masks =
    let n = length (words_of sheet) in
    check (ltb 64 n) Words ∷ (check (ltb answers n || ltb masks (64 * n)) Slice ∷ [])

-- all rows of a call
abbrev pub sheet_call_rows : List ℕ → List ℕ → ℕ → ℕ → List Check
sheet_call_rows f sheet answers masks = file_rows_lem f ++ sheet_rows sheet answers masks

-- the first row that refuses, or 0
unfoldable pub sheet_row : List ℕ → List ℕ → ℕ → ℕ → ℕ
sheet_row f sheet answers masks = first_row (sheet_call_rows f sheet answers masks)

-- the byte of a judge's answer. 02: "0 no, 1 yes, or a faulty word's own number"
abbrev pub byte_of : Result Bool Refusal → ℕ
byte_of (Ok true) = 1
byte_of (Ok false) = 0
byte_of (Err r) = number_of r
