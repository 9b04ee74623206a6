-- The numbers of a lent list, one by one.
use mathlib.Core.Path.{◌≡◌, refl, ◌∙◌, ap}
use mathlib.Core.Bool.{false}
use mathlib.Core.List.{List, [], ◌++◌, append-nil}
use Prim.Native.Nat.{ℕ, ◌+◌, ◌-◌, ◌*◌, ◌/◌, ◌≤◌, ◌<◌}
use native.Mathlib.Omega.{arith}
use lib.ListN.{length, get_or, length-append, get_or-append}
use lib.Seq.{get_or-append-add}
use Rattle.sets.specs.Lists.{tabulate}
use Rattle.codes.specs.Bytes.{word_at, words_of}
use Rattle.codes.proofs.Round.{words-at, words-length}
use Rattle.table_lent.specs.Lent.{words_in, in_words, in_bytes_lem, in_both}

-- ---- bytes

-- of 8 k + r bytes, r < 8, the numbers are the first k
pub words-in-length : (bytes : List ℕ) → length (words_in bytes) ≡ length bytes / 8
unfolding words_in
words-in-length bytes = words-length (length bytes / 8) bytes

pub words-in-at : (bytes : List ℕ) (i : ℕ) → i < length bytes / 8 → get_or (words_in bytes) i 0 ≡ word_at bytes (i * 8)
unfolding words_in
words-in-at bytes i l = words-at (length bytes / 8) bytes i l

-- ---- elements, and bytes after them

module _ (words bytes : List ℕ) where
  pub both-length : length (in_both words bytes).numbers ≡ length words + length bytes / 8
  unfolding in_both
  both-length = length-append words (words_in bytes) ∙ ap (λ (n : ℕ). length words + n) (words-in-length bytes)

  pub both-low : (i : ℕ) → i < length words → get_or (in_both words bytes).numbers i 0 ≡ get_or words i 0
  unfolding in_both
  both-low i l = get_or-append words (words_in bytes) 0 i l

  pub both_high : (i : ℕ) → length words ≤ i → i < length words + length bytes / 8 → get_or (in_both words bytes).numbers i 0 ≡ word_at bytes ((i - length words) * 8)
  unfolding in_both
  both_high i h l =
      let e : i ≡ length words + (i - length words) = omega arith in
      ap (λ (k : ℕ). get_or (words ++ words_in bytes) k 0) e
      ∙ get_or-append-add words (words_in bytes) (i - length words) 0
      ∙ words-in-at bytes (i - length words) (omega arith)

-- ---- one part empty

pub both_words : (words : List ℕ) → in_both words [] ≡ in_words words
unfolding in_both in_words words_in words_of tabulate
both_words words = ap (λ (xs : List ℕ). record { numbers = xs; ragged = false }) (append-nil words)

pub both_bytes : (bytes : List ℕ) → in_both [] bytes ≡ in_bytes_lem bytes
unfolding in_both in_bytes_lem
both_bytes bytes = refl
