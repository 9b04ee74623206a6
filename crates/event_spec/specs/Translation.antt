-- The translation of a log: what it refuses, answers and writes. 02, M-108.
use Rattle.std.specs.Prelude.{◌≡◌, Bool, not, ◌||◌, List, [], ◌∷◌, ◌++◌, ℕ, zero, suc, ◌%◌, eqb, leb, ltb, length, drop, Result, Ok}
use Rattle.std.specs.Result.{result_and}
use Rattle.refusals.specs.declared.Refusal.{Refusal}
use Rattle.sets.specs.Tests.{Set, some_below}
use Rattle.refusals.specs.Rows.{Check, first_refusal, first_row, check}
use Rattle.refusals.specs.declared.Refusal.TheVariants.{Slice, EventLine, CoveredLine, NoLine}
use Rattle.file_spec.specs.File.{rule_in}
use Rattle.file_spec.specs.Rows.{file_rows_lem}
use Rattle.event_spec.specs.Events.{line_count, line_byte, covered, event_count, known, letters_of}

-- line j is at fault under s letters
unfoldable pub faulty : ℕ → List ℕ → Set
faulty s t j =
    -- "a line with lowest above highest"
    ltb (line_byte t j 1) (line_byte t j 0) || (ltb (line_byte t j 3) (line_byte t j 2)
    -- "a letter not below s"
    || leb s (line_byte t j 4))

-- the table is at fault under s letters
unfoldable pub faulty_table : ℕ → List ℕ → Bool
faulty_table s t =
    some_below (line_count t) (faulty s t)
    -- "an unfinished last line"
    || (not (eqb (length t % 5) 0)
    -- "or more than 64 lines"
    || ltb 64 (line_count t))

-- some line has all its pairs in earlier lines
unfoldable pub has_covered_lem : List ℕ → Bool
has_covered_lem t = some_below (line_count t) (covered t)

-- some event is in no line
unfoldable pub has_unknown_lem : List ℕ → List ℕ → Bool
has_unknown_lem t log = some_below (event_count log) (λ k. not (known t log k))

-- the rows of a call under s letters, with a slice of m letters: "They come in this order, after the rule's checks and before 16."
unfoldable pub translation_rows : ℕ → List ℕ → List ℕ → ℕ → List Check
translation_rows s t log m =
    -- "a line with lowest above highest, a letter not below s, an unfinished last line, or more than 64 lines"
    check (faulty_table s t) EventLine
    -- "a line all of whose pairs fall in earlier lines"
    ∷ check (has_covered_lem t) CoveredLine
    -- "an event in no line"
    ∷ check (has_unknown_lem t log) NoLine
    -- 01: "result or scratch slice too short"
    ∷ check (ltb m (event_count log)) Slice
    ∷ []

-- the first row that refuses, or 0, once the rule is read
unfoldable pub translation_row : ℕ → List ℕ → List ℕ → ℕ → ℕ
translation_row s t log m = first_row (translation_rows s t log m)

-- the rows of a call for a file
abbrev pub translate_rows : List ℕ → List ℕ → List ℕ → ℕ → List Check
translate_rows f t log m = file_rows_lem f ++ translation_rows (rule_in f).s t log m

-- the first row that refuses, or 0
unfoldable pub translate_row : List ℕ → List ℕ → List ℕ → ℕ → ℕ
translate_row f t log m = first_row (translate_rows f t log m)

-- by what refuses first: "The answer is the number alone", else the number of letters
unfoldable pub translated_of : List ℕ → List ℕ → List ℕ → ℕ → Result ℕ Refusal
translated_of f t log m = result_and (first_refusal (translate_rows f t log m)) (Ok (event_count log))

-- by the row, or 0: 02: "a call fills lent slices from their start and leaves the rest as lent, and refusals from 19 on change no lent slice"
unfoldable pub filled : ℕ → List ℕ → List ℕ → List ℕ
filled zero letters old = letters ++ drop (length letters) old
filled (suc k) letters old = old

unfoldable pub letters_after_lem : List ℕ → List ℕ → List ℕ → List ℕ → List ℕ
letters_after_lem f t log old = filled (translate_row f t log (length old)) (letters_of t log) old

-- the answer v, and the slice before and after, once a rule over s letters is read
pub record Called (s : ℕ) (t log old new : List ℕ) (v : Result ℕ Refusal) : Type 0 where
  pub answers : v ≡ result_and (first_refusal (translation_rows s t log (length old))) (Ok (event_count log))
  pub written : new ≡ filled (translation_row s t log (length old)) (letters_of t log) old
