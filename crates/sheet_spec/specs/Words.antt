-- The words of a sheet, and the number of each that is faulty.
use Rattle.std.specs.Prelude.{◌||◌, List, [], ◌∷◌, ◌++◌, ℕ, zero, suc, ◌+◌, eqb, ltb, length, take, drop}
use Rattle.refusals.specs.Rows.{Check, check, first_row}
use Rattle.refusals.specs.declared.Refusal.TheVariants.{NoCycle, LongWord}
use Rattle.word_rows.specs.Words.{letter_rows}

-- 02: "A sheet gives for each word two length bytes, lead-in and cycle, then its letters"
pub data SheetWord : Type 0 where
  -- "a lone length byte"
  lone : ℕ → SheetWord
  -- the lengths of lead-in and cycle, and the letters that are there
  spelled : ℕ → ℕ → List ℕ → SheetWord

-- the words of a sheet, at most k of them
unfoldable pub words_in : ℕ → List ℕ → List SheetWord
words_in zero s = []
words_in (suc k) [] = []
words_in (suc k) (a ∷ []) = lone a ∷ []
-- 02: "The next word begins after as many letters as the two bytes say, faulty or not."
words_in (suc k) (a ∷ (b ∷ s)) = spelled a b (take (a + b) s) ∷ words_in k (drop (a + b) s)

-- all of them: each has a byte at least
unfoldable pub words_of : List ℕ → List SheetWord
words_of s = words_in (length s) s

-- lead-in and cycle, of the letters that are there
unfoldable pub lead_of : SheetWord → List ℕ
lead_of (lone a) = []
lead_of (spelled a b t) = take a t

unfoldable pub cycle_of : SheetWord → List ℕ
cycle_of (lone a) = []
cycle_of (spelled a b t) = drop a t

-- 12 and 13 of a word with lengths a and b of which the letters t are there.
-- 02: "a word that the sheet's end cuts off falls under 13, as does a lone length byte"
unfoldable pub length_faults : ℕ → ℕ → List ℕ → List Check
length_faults a b t = check (eqb b 0) NoCycle ∷ (check (ltb (length t) (a + b) || (ltb 32 a || ltb 32 b)) LongWord ∷ [])

-- over s letters, "a faulty word's own number", or 0: the first of 12, 13 and 14
unfoldable pub fault_of : ℕ → SheetWord → ℕ
fault_of s (lone a) = 13
fault_of s (spelled a b t) = first_row (length_faults a b t ++ letter_rows s (take a t) (drop a t))
