-- Numbers in bytes, and row 15 on examples: each condition on both sides of its limit.
use mathlib.Core.Path.{◌≡◌, refl}
use mathlib.Core.List.{List, [], ◌∷◌}
use Prim.Native.Nat.{ℕ, ◌-◌, ◌^◌}
use lib.ListN.{replicate}
use Rattle.sets.specs.Digits.{num}
use Rattle.sets.specs.Lists.{any_of, tabulate}
use Rattle.refusals.specs.Rows.{first_row}
use Rattle.codes.specs.Bytes.{word_at, words_of}
use Rattle.codes.specs.Codes.{transition_of}
use Rattle.slice_search.specs.Places.{ascends, ascends_from}
use Rattle.table_lent.specs.Lent.{words_in, in_words, in_bytes_lem, is_faulty_lem, table_rows_lem, table_row_lem}

-- ---- bytes

-- the bytes 1, 2 and n zeros
abbrev bytes : ℕ → List ℕ
bytes n = 1 ∷ (2 ∷ replicate n 0)

-- 01: "low byte first"
pub low_first : words_in (bytes 6) ≡ 513 ∷ []
unfolding words_in words_of tabulate word_at num
low_first = refl

pub high-last : words_in (0 ∷ (0 ∷ (0 ∷ (0 ∷ (0 ∷ (0 ∷ (0 ∷ (1 ∷ [])))))))) ≡ (2 ^ 56) ∷ []
unfolding words_in words_of tabulate word_at num
high-last = refl

pub in_order : words_in (0 ∷ (0 ∷ (0 ∷ (0 ∷ (0 ∷ (0 ∷ (0 ∷ (0 ∷ bytes 6)))))))) ≡ 0 ∷ (513 ∷ [])
unfolding words_in words_of tabulate word_at num
in_order = refl

-- bytes left over are no number
pub left_over : (words_in (bytes 5) ≡ []) × (words_in (bytes 7) ≡ 513 ∷ [])
unfolding words_in words_of tabulate word_at num
left_over = (refl, refl)

-- ---- row 15, for a rule of 2 letters

abbrev row : List ℕ → List ℕ → ℕ
row codes transitions = table_row_lem 2 (in_words codes) (in_words transitions)

-- 01's example, "codes 5, 5"
pub codes-5-5 : row (5 ∷ (5 ∷ [])) [] ≡ 15
unfolding table_row_lem table_rows_lem first_row in_words is_faulty_lem ascends ascends_from any_of
codes-5-5 = refl

pub codes_ascend : (row [] [] ≡ 0) × (row (5 ∷ (6 ∷ [])) [] ≡ 0) × (row (6 ∷ (5 ∷ [])) [] ≡ 15)
unfolding table_row_lem table_rows_lem first_row in_words is_faulty_lem ascends ascends_from any_of
codes_ascend = (refl, refl, refl)

pub transitions_ascend : (row (5 ∷ (6 ∷ [])) (0 ∷ (1 ∷ [])) ≡ 0) × (row (5 ∷ (6 ∷ [])) (1 ∷ (1 ∷ [])) ≡ 15) × (row (5 ∷ (6 ∷ [])) (1 ∷ (0 ∷ [])) ≡ 15)
unfolding table_row_lem table_rows_lem first_row in_words is_faulty_lem ascends ascends_from any_of
transitions_ascend = (refl, refl, refl)

-- "a code with a bit above 47"
pub high_bit : (row (5 ∷ ((2 ^ 48 - 1) ∷ [])) [] ≡ 0) × (row (5 ∷ ((2 ^ 48) ∷ [])) [] ≡ 15)
unfolding table_row_lem table_rows_lem first_row in_words is_faulty_lem ascends ascends_from any_of
high_bit = (refl, refl)

-- "a transition's source, letter or target out of range"
pub source : (row (5 ∷ (6 ∷ [])) (transition_of 1 0 0 ∷ []) ≡ 0) × (row (5 ∷ (6 ∷ [])) (transition_of 2 0 0 ∷ []) ≡ 15) × (row (5 ∷ (6 ∷ [])) ((2 ^ 40) ∷ []) ≡ 15)
unfolding table_row_lem table_rows_lem first_row in_words is_faulty_lem ascends ascends_from any_of
source = (refl, refl, refl)

pub letter : (row (5 ∷ (6 ∷ [])) (transition_of 0 1 0 ∷ []) ≡ 0) × (row (5 ∷ (6 ∷ [])) (transition_of 0 2 0 ∷ []) ≡ 15)
unfolding table_row_lem table_rows_lem first_row in_words is_faulty_lem ascends ascends_from any_of
letter = (refl, refl)

pub target : (row (5 ∷ (6 ∷ [])) (transition_of 0 0 1 ∷ []) ≡ 0) × (row (5 ∷ (6 ∷ [])) (transition_of 0 0 2 ∷ []) ≡ 15)
unfolding table_row_lem table_rows_lem first_row in_words is_faulty_lem ascends ascends_from any_of
target = (refl, refl)

-- "a length that 8 does not divide is 15": codes of 7, 8 and 9 bytes, then transitions
pub codes-in-bytes : (table_row_lem 2 (in_bytes_lem (bytes 5)) (in_bytes_lem []) ≡ 15) × (table_row_lem 2 (in_bytes_lem (bytes 6)) (in_bytes_lem []) ≡ 0) × (table_row_lem 2 (in_bytes_lem (bytes 7)) (in_bytes_lem []) ≡ 15)
unfolding table_row_lem table_rows_lem first_row in_bytes_lem is_faulty_lem ascends ascends_from any_of words_in words_of tabulate word_at num
codes-in-bytes = (refl, refl, refl)

pub transitions-in-bytes : (table_row_lem 2 (in_bytes_lem (bytes 6)) (in_bytes_lem (replicate 7 0)) ≡ 15) × (table_row_lem 2 (in_bytes_lem (bytes 6)) (in_bytes_lem (replicate 8 0)) ≡ 0)
    × (table_row_lem 2 (in_bytes_lem (bytes 6)) (in_bytes_lem (replicate 9 0)) ≡ 15)
unfolding table_row_lem table_rows_lem first_row in_bytes_lem is_faulty_lem ascends ascends_from any_of words_in words_of tabulate word_at num
transitions-in-bytes = (refl, refl, refl)

-- "over 65,536 codes": the numbers from 0 on; that 65,536 pass is a law of Passed
pub codes-65537 : row (tabulate 65537 (λ i. i) 0) [] ≡ 15
unfolding table_row_lem table_rows_lem first_row in_words is_faulty_lem ascends ascends_from any_of tabulate
codes-65537 = refl
