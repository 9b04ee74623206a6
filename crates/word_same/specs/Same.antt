-- The sameness of words.
use Rattle.std.specs.Prelude.{◌≡◌, ◌↔◌, Bool, true, List, ◌++◌, ℕ, Result, Ok}
use Rattle.refusals.specs.Rows.{first_refusal, first_row}
use Rattle.std.specs.Result.{result_and}
use Rattle.refusals.specs.declared.Refusal.{Refusal}
use Rattle.word_rows.specs.Words.{length_rows}
use Rattle.word_spelling_spec.specs.Spelling.{Agree}
use Rattle.word_spelling_spec.specs.SpellingComputed.{same_word}

-- 01: "that test has no rule and tries rows 12 and 13, first word first"
unfoldable pub same_row : List ℕ → List ℕ → List ℕ → List ℕ → ℕ
same_row lead₁ cycle₁ lead₂ cycle₂ = first_row (length_rows lead₁ cycle₁ ++ length_rows lead₂ cycle₂)

-- the answer of the sameness test of two words: whether they are the same
unfoldable pub same_words_of : List ℕ → List ℕ → List ℕ → List ℕ → Result Bool Refusal
same_words_of lead₁ cycle₁ lead₂ cycle₂ = result_and (first_refusal (length_rows lead₁ cycle₁ ++ length_rows lead₂ cycle₂)) (Ok (same_word lead₁ cycle₁ lead₂ cycle₂))

-- the answer v, and what it means
pub record Compared (lead₁ cycle₁ lead₂ cycle₂ : List ℕ) (v : Result Bool Refusal) : Type 0 where
  pub answered : v ≡ same_words_of lead₁ cycle₁ lead₂ cycle₂
  -- 02: "Two words are from now on the same if they agree at every step."
  pub meant : same_row lead₁ cycle₁ lead₂ cycle₂ ≡ 0 → (v ≡ Ok true) ↔ Agree lead₁ cycle₁ lead₂ cycle₂
