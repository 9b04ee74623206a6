-- The judge of words on a lent table, for a rule of s letters and a start condition: what it refuses and answers, and what is left of the scratch slice.
use Rattle.std.specs.Prelude.{◌≡◌, List, [], ◌∷◌, ◌++◌, ℕ, zero, suc, ◌*◌, ◌<◌, ltb, length, replicate, Result, Ok, Err, Option, Some, None, ⊤}
use Rattle.refusals.specs.Rows.{Check, check, first_refusal, first_row}
use Rattle.refusals.specs.declared.Refusal.{Refusal}
use Rattle.refusals.specs.declared.Refusal.TheVariants.{Slice}
use Rattle.sets.specs.Tests.{Set}
use Rattle.theory.specs.Word.{places}
use Rattle.word_rows.specs.Words.{word_rows_lem}
use Rattle.table_lent.specs.Lent.{Lent, table_rows_lem}
use Rattle.table_call.specs.Starts.{Begins}

-- row 16, of a scratch slice of m bytes: "of at least macrostates × places bytes"
unfoldable pub scratch_rows : ℕ → List ℕ → List ℕ → ℕ → List Check
scratch_rows macrostates lead cycle m = check (ltb m (macrostates * places lead cycle)) Slice ∷ []

-- rows 12 to 16, for a rule of s letters
unfoldable pub call_rows : ℕ → List ℕ → List ℕ → Lent → Lent → ℕ → List Check
call_rows s lead cycle codes transitions m =
    word_rows_lem s lead cycle ++ (table_rows_lem s codes transitions ++ scratch_rows (length codes.numbers) lead cycle m)

-- the first of them that refuses, or 0
unfoldable pub call_row_lem : ℕ → List ℕ → List ℕ → Lent → Lent → ℕ → ℕ
call_row_lem s lead cycle codes transitions m = first_row (call_rows s lead cycle codes transitions m)

-- by what refuses. 01: "it answers no, or yes with the lowest number of an initial macrostate where an accepting run begins"
abbrev pub Answered : Result ⊤ Refusal → (ℕ → Type 0) → Result (Option ℕ) Refusal → Type 0
Answered (Ok _) begins (Ok (Some m)) = begins m × ((l : ℕ) → l < m → begins l → ⊥)
Answered (Ok _) begins (Ok None) = (m : ℕ) → begins m → ⊥
Answered (Ok _) begins (Err r) = ⊥
Answered (Err r) begins a = a ≡ Err r

-- by the row, or 0: "Scratch ends all zero."; a refusal changes "no lent slice"
unfoldable pub scratch_after_lem : ℕ → List ℕ → List ℕ
scratch_after_lem zero old = replicate (length old) 0
scratch_after_lem (suc k) old = old

-- the answer a, and the scratch slice before and after, for a rule of s letters and a start condition
pub record TableCalled (s : ℕ) (start : Set) (lead cycle : List ℕ) (codes transitions : Lent) (old new : List ℕ) (a : Result (Option ℕ) Refusal) : Type 0 where
  pub answer : Answered (first_refusal (call_rows s lead cycle codes transitions (length old))) (Begins start codes.numbers transitions.numbers lead cycle) a
  pub scratch : new ≡ scratch_after_lem (call_row_lem s lead cycle codes transitions (length old)) old
