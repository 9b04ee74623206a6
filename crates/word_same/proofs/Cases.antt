-- What the definition gives for examples.
use mathlib.Core.Path.{◌≡◌, refl}
use mathlib.Core.List.{[], ◌∷◌}
use Prim.Native.Nat.{ℕ}
use lib.ListN.{replicate}
use Rattle.refusals.specs.Rows.{first_refusal}
use Rattle.sets.specs.Tests.{every}
use Rattle.theory.specs.Word.{next_place_lem, letter_at_lem, place}
use Rattle.word_rows.specs.Words.{length_rows}
use Rattle.word_spelling_spec.specs.SpellingComputed.{same_word}
use Rattle.std.specs.Prelude.{Ok, Err, true, false}
use Rattle.refusals.specs.declared.Refusal.TheVariants.{NoCycle}
use Rattle.word_same.specs.Same.{same_words_of}

-- what an evaluation unfolds
unfoldable computed : ℕ
unfolding same_words_of first_refusal length_rows same_word every letter_at_lem next_place_lem place
computed = 0

-- 02: "the same endless sequence many times, as lead-in 0 with cycle 1 0 and as cycle 0 1"
pub duty : same_words_of (0 ∷ []) (1 ∷ 0 ∷ []) [] (0 ∷ 1 ∷ []) ≡ Ok true
duty = unfold computed in refl

-- a rotation of a cycle is another word
pub rotation : same_words_of [] (0 ∷ 1 ∷ []) [] (1 ∷ 0 ∷ []) ≡ Ok false
rotation = unfold computed in refl

-- the first word is refused first
pub first-word-first : same_words_of [] [] (replicate 33 0) (1 ∷ []) ≡ Err NoCycle
first-word-first = unfold computed in refl
