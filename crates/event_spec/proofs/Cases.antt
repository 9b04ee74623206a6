-- Worked tables and logs under rule F, which has two letters: what a translation answers and writes.
use mathlib.Core.Path.{◌≡◌, refl}
use mathlib.Core.Bool.{false}
use mathlib.Core.List.{List, [], ◌∷◌}
use Prim.Native.Nat.{ℕ}
use lib.ListN.{length}
use Rattle.sets.specs.Tests.{every, some_below, count, first}
use Rattle.sets.specs.Lists.{tabulate, flat}
use Rattle.refusals.specs.Rows.{first_refusal, first_row}
use Rattle.file_spec.proofs.Examples.{rows_computed}
use Rattle.std.specs.Prelude.{Result, Ok}
use Rattle.refusals.specs.declared.Refusal.{Refusal}
use Rattle.event_spec.specs.Events.{spans, holds, first_line, event_letter, covered, known, letters_of}
use Rattle.event_spec.specs.Translation.{faulty, faulty_table, has_covered_lem, has_unknown_lem, translation_rows, translation_row, translate_row, translated_of, filled, letters_after_lem}

F : List ℕ
F = 0x01 ∷ 0x00 ∷ 0x01 ∷ 0x01 ∷ 0x01 ∷ 0x02 ∷ 0x00 ∷ 0x00 ∷ 0x02 ∷ 0x00 ∷ 0x41 ∷ 0x57 ∷ []

-- the translation of the log under rule F and table t answers v and makes new of the slice old
record Case (t log : List ℕ) (v : Result ℕ Refusal) (old new : List ℕ) : Type 0 where
  answers : translated_of F t log (length old) ≡ v
  writes : letters_after_lem F t log old ≡ new

-- kinds 0 to 3 and drives 0 to 3 are letter 1, then kinds 2 to 5 and drives 1 to 5 letter 0
two : List ℕ
two = 0 ∷ 3 ∷ 0 ∷ 3 ∷ 1 ∷ 2 ∷ 5 ∷ 1 ∷ 5 ∷ 0 ∷ []

-- what an evaluation of the deciding row unfolds
unfoldable deciding : ℕ
unfolding translation_row translation_rows first_row first_refusal faulty_table has_covered_lem has_unknown_lem faulty covered known holds spans every some_below
deciding = 0

-- "The first line that holds an event's two bytes gives its letter"; "an odd last byte is no event yet"; the byte after the letters stays
served : Case two (2 ∷ 2 ∷ 2 ∷ 4 ∷ 0 ∷ 0 ∷ 9 ∷ []) (Ok 3) (7 ∷ 7 ∷ 7 ∷ 7 ∷ []) (1 ∷ 0 ∷ 1 ∷ 7 ∷ [])
unfolding F two translated_of letters_after_lem translate_row filled rows_computed deciding letters_of event_letter first_line tabulate first count
served = record { answers = refl; writes = refl }

-- ---- the row that refuses first, under two letters

-- 26: a line covered by one earlier line, by two together, by three together; a line partly covered is served
abbrev table-26 : List ℕ → Type 0
table-26 t = translation_row 2 t [] 0 ≡ 26

-- an exact repeat, in the same table with another letter
repeated : table-26 (0 ∷ 1 ∷ 0 ∷ 1 ∷ 0 ∷ 0 ∷ 1 ∷ 0 ∷ 1 ∷ 1 ∷ [])
repeated = unfold deciding in refl

-- "in earlier lines": kinds 0 to 1 in the first and 2 to 3 in the second
by_two : table-26 (0 ∷ 1 ∷ 0 ∷ 1 ∷ 0 ∷ 2 ∷ 3 ∷ 0 ∷ 1 ∷ 1 ∷ 0 ∷ 3 ∷ 0 ∷ 1 ∷ 0 ∷ [])
by_two = unfold deciding in refl

by_three : table-26 (0 ∷ 0 ∷ 0 ∷ 2 ∷ 0 ∷ 1 ∷ 2 ∷ 0 ∷ 0 ∷ 1 ∷ 1 ∷ 2 ∷ 1 ∷ 2 ∷ 0 ∷ 0 ∷ 2 ∷ 0 ∷ 2 ∷ 1 ∷ [])
by_three = unfold deciding in refl

partly : translation_row 2 (0 ∷ 1 ∷ 0 ∷ 1 ∷ 0 ∷ 0 ∷ 2 ∷ 0 ∷ 1 ∷ 1 ∷ []) (2 ∷ 1 ∷ []) 1 ≡ 0
partly = unfold deciding in refl

-- kind 1 and drive 5 are in the line, kind 5 and drive 1 in none
kind-and-drive : (translation_row 2 (0 ∷ 1 ∷ 5 ∷ 6 ∷ 1 ∷ []) (1 ∷ 5 ∷ []) 1 ≡ 0) × (translation_row 2 (0 ∷ 1 ∷ 5 ∷ 6 ∷ 1 ∷ []) (5 ∷ 1 ∷ []) 1 ≡ 27)
kind-and-drive = unfold deciding in (refl, refl)

-- an odd last byte of a kind in no line: no event, nothing refused, no letter wanted
odd_byte : (translation_row 2 two (9 ∷ []) 0 ≡ 0) × (translation_row 2 two (0 ∷ 0 ∷ 9 ∷ []) 1 ≡ 0) × (translation_row 2 two (0 ∷ 0 ∷ 9 ∷ 9 ∷ []) 2 ≡ 27)
odd_byte = unfold two deciding in (refl, refl, refl)

-- "They come in this order .. and before 16": 25 before 26, 26 before 27, 27 before 16
order :
    (translation_row 2 (0 ∷ 1 ∷ 0 ∷ 1 ∷ 0 ∷ 0 ∷ 1 ∷ 0 ∷ 1 ∷ 2 ∷ []) (9 ∷ 9 ∷ []) 0 ≡ 25)
    × (translation_row 2 (0 ∷ 1 ∷ 0 ∷ 1 ∷ 0 ∷ 0 ∷ 1 ∷ 0 ∷ 1 ∷ 1 ∷ []) (9 ∷ 9 ∷ []) 0 ≡ 26)
    × (translation_row 2 two (9 ∷ 9 ∷ []) 0 ≡ 27)
    × (translation_row 2 two (0 ∷ 0 ∷ []) 0 ≡ 16)
order = unfold two deciding in (refl, refl, refl, refl)

-- 25: a kind, then a drive, with lowest above highest; letter 2; a last line of four bytes, one of a single byte
table-25 :
    (translation_row 2 (1 ∷ 0 ∷ 0 ∷ 0 ∷ 0 ∷ []) [] 0 ≡ 25)
    × (translation_row 2 (0 ∷ 0 ∷ 1 ∷ 0 ∷ 0 ∷ []) [] 0 ≡ 25)
    × (translation_row 2 (0 ∷ 0 ∷ 0 ∷ 0 ∷ 2 ∷ []) [] 0 ≡ 25)
    × (translation_row 2 (0 ∷ 0 ∷ 0 ∷ 0 ∷ []) [] 0 ≡ 25)
    × (translation_row 2 (0 ∷ 0 ∷ 0 ∷ 0 ∷ 0 ∷ 0 ∷ []) [] 0 ≡ 25)
table-25 = unfold deciding in (refl, refl, refl, refl, refl)

-- n lines, each for its own kind
lines : ℕ → List ℕ
unfolding flat tabulate
lines n = flat (tabulate n (λ j. j) 0) (λ j. j ∷ j ∷ 0 ∷ 0 ∷ 1 ∷ [])

-- 64 lines are no fault by their number
lines-64 : (t : List ℕ) → length t ≡ 320 → some_below 64 (faulty 2 t) ≡ false → faulty_table 2 t ≡ false
lines-64 t e f = unfold faulty_table in rw (e, f) refl

-- no line at all, 64 lines, 65 lines
line-counts : (translation_row 2 [] [] 0 ≡ 0) × (translation_row 2 (lines 64) (63 ∷ 0 ∷ []) 1 ≡ 0) × (translation_row 2 (lines 65) [] 0 ≡ 25)
line-counts = unfold lines flat tabulate deciding in (refl, refl, refl)
