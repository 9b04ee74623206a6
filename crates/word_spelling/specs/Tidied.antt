-- The tidy spelling of a word: what the call refuses, answers and writes.
use Rattle.std.specs.Prelude.{◌≡◌, List, [], ◌∷◌, ◌++◌, ℕ, zero, suc, ltb, length, drop, Result, Ok}
use Rattle.refusals.specs.Rows.{Check, check, first_refusal, first_row}
use Rattle.std.specs.Result.{result_and}
use Rattle.refusals.specs.declared.Refusal.{Refusal}
use Rattle.refusals.specs.declared.Refusal.TheVariants.{Slice}
use Rattle.theory.specs.Word.{letters}
use Rattle.word_rows.specs.Words.{length_rows}
use Rattle.word_spelling_spec.specs.Spelling.{Tidy}
use Rattle.word_spelling_spec.specs.SpellingComputed.{tidy_lead, tidy_cycle}
use Rattle.word_spelling.specs.declared.Lengths.{Lengths}

-- the letters of the tidy spelling, lead-in then cycle
abbrev pub tidy_letters : List ℕ → List ℕ → List ℕ
tidy_letters lead cycle = tidy_lead lead cycle ++ tidy_cycle lead cycle

-- row 16, of a slice of m bytes: "result or scratch slice too short"
unfoldable pub slice_rows : List ℕ → List ℕ → ℕ → List Check
slice_rows lead cycle m = check (ltb m (length (tidy_letters lead cycle))) Slice ∷ []

-- the word's rows 12 and 13, then the slice: the first row that refuses, or 0
unfoldable pub tidy_row : List ℕ → List ℕ → ℕ → ℕ
tidy_row lead cycle m = first_row (length_rows lead cycle ++ slice_rows lead cycle m)

-- the answer of a call whose slice has m bytes: the two lengths
unfoldable pub tidy_word_of : List ℕ → List ℕ → ℕ → Result Lengths Refusal
tidy_word_of lead cycle m =
    result_and (first_refusal (length_rows lead cycle ++ slice_rows lead cycle m))
    (Ok (record { lead = length (tidy_lead lead cycle); cycle = length (tidy_cycle lead cycle) }))

-- by the row, or 0. 02: "a call fills lent slices from their start and leaves the rest as lent"; a refusal changes "no lent slice"
unfoldable pub after : ℕ → List ℕ → List ℕ → List ℕ
after zero word old = word ++ drop (length word) old
after (suc k) word old = old

-- the answer v, and the slice before and after
pub record Tidied (lead cycle old new : List ℕ) (v : Result Lengths Refusal) : Type 0 where
  pub answered : v ≡ tidy_word_of lead cycle (length old)
  pub written : new ≡ after (tidy_row lead cycle (length old)) (tidy_letters lead cycle) old
  -- 02: "the tidy spelling: the shortest cycle, then the shortest lead-in"
  pub meant : tidy_row lead cycle (length old) ≡ 0 → Tidy (letters lead cycle) (tidy_lead lead cycle) (tidy_cycle lead cycle)
