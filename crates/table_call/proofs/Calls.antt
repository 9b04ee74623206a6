-- From the lowest number where an accepting run begins to the answer.
use mathlib.Core.Path.{◌≡◌, refl, sym, ap, ◌∙◌}
use mathlib.Core.List.{List, [], ◌∷◌}
use Prim.Native.Nat.{ℕ, zero, suc, ◌<◌, ◌≤◌}
use native.Mathlib.Omega.{arith}
use lib.ListN.{length, replicate}
use Rattle.sets.specs.Tests.{Set}
use Rattle.std.specs.Prelude.{Ok, Err, Some, None}
use Rattle.refusals.specs.Rows.{number_of, row_of, first_refusal}
use Rattle.refusals.specs.declared.Refusal.{Refusal}
use Rattle.refusals.proofs.Rows.{number-above, row-refusal, row-passes}
use Rattle.table_lent.specs.Lent.{Lent}
use Rattle.table_call.specs.Starts.{Begins, Earliest}
use Rattle.table_call.specs.Calls.{call_rows, call_row_lem, scratch_after_lem, TableCalled}

-- ---- examples

-- served: zero throughout; refused: as it was
cleared : scratch_after_lem 0 (7 ∷ 8 ∷ []) ≡ 0 ∷ 0 ∷ []
unfolding scratch_after_lem
cleared = refl

kept : scratch_after_lem 16 (7 ∷ 8 ∷ []) ≡ 7 ∷ 8 ∷ []
unfolding scratch_after_lem
kept = refl

-- ---- the answer by what refuses

-- a refusal leaves scratch
pub leaves : (k : ℕ) → 0 < k → (old : List ℕ) → old ≡ scratch_after_lem k old
unfolding scratch_after_lem
leaves zero l old = absurd (omega arith)
leaves (suc k) l old = refl

module _ {s : ℕ} {start : Set} {lead cycle : List ℕ} {codes transitions : Lent} {old : List ℕ} where
  pub called-refused : (r : Refusal) → first_refusal (call_rows s lead cycle codes transitions (length old)) ≡ Err r → TableCalled s start lead cycle codes transitions old old (Err r)
  unfolding call_row_lem
  called-refused r e = let k = sym (row-refusal (call_rows s lead cycle codes transitions (length old))) ∙ ap row_of e in
      record { answer = rw e refl; scratch = rw k (leaves (number_of r) (number-above r) old) }

  module _ (e : first_refusal (call_rows s lead cycle codes transitions (length old)) ≡ Ok tt) {m : ℕ}
      (b : Earliest (length codes.numbers) (Begins start codes.numbers transitions.numbers lead cycle) m) where
    pub called-yes : m < length codes.numbers → TableCalled s start lead cycle codes transitions old (replicate (length old) 0) (Ok (Some m))
    unfolding scratch_after_lem call_row_lem
    called-yes low = let k = row-passes (call_rows s lead cycle codes transitions (length old)) e in record { answer = rw e (b.found low, λ l k. b.none l (omega arith)); scratch = rw k refl }

    pub called-no : length codes.numbers ≤ m → TableCalled s start lead cycle codes transitions old (replicate (length old) 0) (Ok None)
    unfolding scratch_after_lem call_row_lem
    called-no high = let k = row-passes (call_rows s lead cycle codes transitions (length old)) e in
        record { answer = rw e (λ l k. let w = b.within l k in b.none l (omega arith) k); scratch = rw k refl }
