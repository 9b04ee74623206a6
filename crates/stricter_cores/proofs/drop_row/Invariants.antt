-- `drop_row` meets its contract: the pairs of the row before x are thinned.
use Rattle.std.proofs.Common.{◌-◌, ◌≤◌}
use Rattle.stricter_spec.specs.Steps.{CoreStep}
use Rattle.stricter_laws.specs.Parts.{Thinned}
use Rattle.stricter_cores.proofs.drop_row.Given as goal

abbrev pub invariant-loop-x : goal.invariant-loop-x
invariant-loop-x l = record { from : l.row ≤ l.x; within : l.x ≤ l.end; thinned : Thinned (CoreStep l.nb l.left l.right) l.fn.marks l.marks }

abbrev pub decreases-loop-x : goal.decreases-loop-x
decreases-loop-x l = l.end - l.x
