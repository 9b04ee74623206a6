-- Where the words of a sheet begin.
use Rattle.std.specs.Prelude.{◌≡◌, true, false, List, ◌∷◌, ℕ, ◌+◌, ◌≤◌, ◌<◌, ltb, length, get_or, take, drop}
use Rattle.sheet_spec.specs.Words.{SheetWord, lone, spelled, words_of}

-- the lengths of the word that begins at byte at
abbrev pub lead_at : List ℕ → ℕ → ℕ
lead_at s at = get_or s at 0

abbrev pub cycle_at : List ℕ → ℕ → ℕ
cycle_at s at = get_or s (at + 1) 0

-- its letters that are there
abbrev pub letters_at : List ℕ → ℕ → List ℕ
letters_at s at = take (lead_at s at + cycle_at s at) (drop (at + 2) s)

-- the word that begins at byte at
unfoldable pub word_from : List ℕ → ℕ → SheetWord
word_from s at = elim (ltb (at + 1) (length s)) [ true ↦ spelled (lead_at s at) (cycle_at s at) (letters_at s at) | false ↦ lone (get_or s at 0) ]

-- after the word that begins at byte at the next begins at byte r, or the sheet ends there
pub record Next (s : List ℕ) (at r : ℕ) : Type 0 where
  pub later : at < r
  pub within : r ≤ length s
  pub words : words_of (drop at s) ≡ word_from s at ∷ words_of (drop r s)
