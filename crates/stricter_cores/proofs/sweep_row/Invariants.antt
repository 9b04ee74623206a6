-- `sweep_row` meets its contract: the pairs of the row before x are tried.
use Rattle.std.proofs.Common.{◌-◌, ◌≤◌}
use Rattle.stricter_spec.specs.Steps.{CoreStep, SparedStep}
use Rattle.stricter_spec.specs.Rounds.{Tried}
use Rattle.stricter_cores.proofs.sweep_row.Given as goal

abbrev pub invariant-loop-x : goal.invariant-loop-x
invariant-loop-x l = record {
  from : l.row ≤ l.x;
  within : l.x ≤ l.end;
  tried : Tried (CoreStep l.nb l.left l.right) (SparedStep l.nb l.left l.right l.fn.ask.second l.fn.ask.k) l.from l.x l.fn.marks l.marks l.changed;
}

abbrev pub decreases-loop-x : goal.decreases-loop-x
decreases-loop-x l = l.end - l.x
