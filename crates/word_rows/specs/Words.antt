-- The checks of words, rows 12 to 14.
use Rattle.std.specs.Prelude.{◌||◌, List, [], ◌∷◌, ◌++◌, ℕ, eqb, leb, ltb, length}
use Rattle.sets.specs.Lists.{any_of}
use Rattle.refusals.specs.Rows.{Check, check, first_row}
use Rattle.refusals.specs.declared.Refusal.TheVariants.{NoCycle, LongWord, Letter}

-- 12 "empty cycle", 13 "lead-in or cycle over 32"
unfoldable pub length_rows : List ℕ → List ℕ → List Check
length_rows lead cycle =
    check (eqb (length cycle) 0) NoCycle
    ∷ (check (ltb 32 (length lead) || ltb 32 (length cycle)) LongWord ∷ [])

-- 14 "letter not below s"
unfoldable pub letter_rows : ℕ → List ℕ → List ℕ → List Check
letter_rows s lead cycle = check (any_of lead (λ a. leb s a) || any_of cycle (λ a. leb s a)) Letter ∷ []

-- rows 12 to 14, of a word over s letters
unfoldable pub word_rows_lem : ℕ → List ℕ → List ℕ → List Check
word_rows_lem s lead cycle = length_rows lead cycle ++ letter_rows s lead cycle

-- the first of them that refuses, or 0
unfoldable pub word_row_lem : ℕ → List ℕ → List ℕ → ℕ
word_row_lem s lead cycle = first_row (word_rows_lem s lead cycle)

-- the first of rows 12 and 13 that refuses the word, or 0
unfoldable pub length_row_lem : List ℕ → List ℕ → ℕ
length_row_lem lead cycle = first_row (length_rows lead cycle)
