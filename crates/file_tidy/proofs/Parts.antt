-- The counts of a file, from its end.
use Prim.Native.Nat.{ℕ, ◌+◌, ◌-◌, ◌≤◌}
use mathlib.Core.Path.{◌≡◌, ap₂}
use mathlib.Core.List.{List}
use native.Mathlib.Omega.{arith}
use lib.ListN.{length, take, drop}
use Rattle.std.specs.Prelude.{Ok}
use Rattle.refusals.specs.Rows.{first_refusal, first_row}
use Rattle.refusals.proofs.Rows.{row-passes, refusal_and}
use Rattle.file_spec.specs.File.{clause_count, entry_count, clauses_at, counts_of_lem}
use Rattle.file_spec.specs.Rows.{layout_rows}
use Rattle.file_spec.proofs.TrailerRows.{Placed, placed}
use Rattle.file_read.proofs.FileRows.{laid, formed_passing}

pub counts_end : (f : List ℕ) → clause_count f + entry_count f ≤ length f - 8
    → take (length f - 8 - (length f - 8 - entry_count f)) (drop (length f - 8 - entry_count f) f) ≡ counts_of_lem f
unfolding counts_of_lem
counts_end f l =
    let a : length f - 8 - (length f - 8 - entry_count f) ≡ entry_count f = omega arith in
    let b : length f - 8 - entry_count f ≡ clauses_at f + clause_count f = omega arith in
    ap₂ (λ (i j : ℕ). take i (drop j f)) a b

-- what rows 1 to 10 give
pub laid_out : (f : List ℕ) → first_row (layout_rows f) ≡ 0 → Placed f
laid_out f e = placed f (laid f e).0

pub laid_passing : (f : List ℕ) → first_refusal (layout_rows f) ≡ Ok tt → Placed f
laid_passing f e = laid_out f (row-passes (layout_rows f) e)

-- what the rows of the tool cite
pub ruleset tidying = (refusal_and, laid_passing, formed_passing)
