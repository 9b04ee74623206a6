-- `settle_row` meets its contract: the pairs of the row before x are settled.
use Rattle.std.proofs.Common.{◌-◌, ◌≤◌}
use Rattle.stricter_laws.specs.Parts.{Settled}
use Rattle.stricter_cores.proofs.settle_row.Given as goal

abbrev pub invariant-loop-x : goal.invariant-loop-x
invariant-loop-x l = record { from : l.row ≤ l.x; within : l.x ≤ l.end; settled : Settled l.row l.x l.fn.marks l.marks l.changed }

abbrev pub decreases-loop-x : goal.decreases-loop-x
decreases-loop-x l = l.end - l.x
