-- `file_tidy::part_before` meets its contract.
use Prim.Native.Nat.{◌≤◌}
use native.Mathlib.Omega.{arith}
use borrow.Author.Rules.{rules}
use lib.ListN.{length, length-take}
use Rattle.file_tidy.proofs.part_before.Statement.{statement}
use Rattle.file_tidy.proofs.part_before.Tie as tie

slice-aggregate-result : tie.Need-slice_bounds-result-end
slice-aggregate-result c =
    let start : tie.Start = search in let l : c.lay_out-l.result.at ≤ length start.args.f.now = rw c.lay_out-l.ensures (omega arith) in simp length-take (omega arith)

pub part_before_spec : {M : Type 1} → statement M
part_before_spec = tie.close (tie.spec (λ c κs. search rules) slice-aggregate-result (λ c. rw c.lay_out-l.ensures))
