-- Tables as they are lent: lists of 64-bit numbers, in elements or in bytes, and row 15.
use Rattle.std.specs.Prelude.{Bool, false, not, ◌||◌, List, [], ◌∷◌, ◌++◌, ℕ, ◌/◌, ◌%◌, ◌^◌, eqb, leb, ltb, length}
use Rattle.sets.specs.Lists.{any_of}
use Rattle.refusals.specs.Rows.{Check, check, first_row}
use Rattle.refusals.specs.declared.Refusal.TheVariants.{Table}
use Rattle.theory.specs.Run.{source_of, letter_of_lem, target_of}
use Rattle.codes.specs.Bytes.{words_of}
use Rattle.slice_search.specs.Places.{ascends}

-- the numbers of a lent list, and whether bytes are left over behind them
pub record Lent : Type 0 where
  pub numbers : List ℕ
  pub ragged : Bool

-- 01: "each code and transition as 8 bytes, low byte first"
unfoldable pub words_in : List ℕ → List ℕ
words_in bytes = words_of (length bytes / 8) bytes

-- lent as 64-bit elements
unfoldable pub in_words : List ℕ → Lent
in_words words = record { numbers = words; ragged = false }

-- lent as bytes: "a length that 8 does not divide is 15"
unfoldable pub in_bytes_lem : List ℕ → Lent
in_bytes_lem bytes = record { numbers = words_in bytes; ragged = not (eqb (length bytes % 8) 0) }

-- lent as elements, and bytes after them
unfoldable pub in_both : List ℕ → List ℕ → Lent
in_both words bytes = record { numbers = words ++ words_in bytes; ragged = not (eqb (length bytes % 8) 0) }

-- "a code with a bit above 47"
abbrev pub is_high : ℕ → Bool
is_high c = leb (2 ^ 48) c

-- "a transition's source, letter or target out of range": there are n codes and s letters
abbrev pub is_astray_lem : ℕ → ℕ → ℕ → Bool
is_astray_lem n s t = leb n (source_of t) || (leb s (letter_of_lem t) || leb n (target_of t))

-- 15: "over 65,536 codes, codes or transitions not strictly ascending, a code with a bit above 47, or a transition's source, letter or target out of range"
unfoldable pub is_faulty_lem : ℕ → List ℕ → List ℕ → Bool
is_faulty_lem s codes transitions =
    ltb 65536 (length codes)
    || (not (ascends codes)
    || (not (ascends transitions)
    || (any_of codes is_high
    || any_of transitions (is_astray_lem (length codes) s))))

unfoldable pub table_rows_lem : ℕ → Lent → Lent → List Check
table_rows_lem s codes transitions =
    check (codes.ragged || (transitions.ragged || is_faulty_lem s codes.numbers transitions.numbers)) Table ∷ []

-- row 15, or 0
unfoldable pub table_row_lem : ℕ → Lent → Lent → ℕ
table_row_lem s codes transitions = first_row (table_rows_lem s codes transitions)
