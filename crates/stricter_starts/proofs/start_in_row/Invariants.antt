-- `start_in_row` meets its contract: no pair of the row before the place is a start pair, and the place itself is in.
use Rattle.std.proofs.Common.{not, ◌-◌, ◌≤◌, ◌<◌, get_or}
use Rattle.sets.specs.Masks.{bit}
use Rattle.stricter_starts.proofs.Rows.{NoneUp}
use Rattle.stricter_starts.proofs.start_in_row.Given as goal

abbrev pub invariant-loop-x : goal.invariant-loop-x
invariant-loop-x l = record {
  from : l.row ≤ l.x;
  within : l.x ≤ l.end;
  set : l.x < l.end → 0 < get_or l.marks l.x 0;
  none : NoneUp l.acodes l.bcodes (λ c. bit c l.ainitial) (λ c. not (bit c l.binitial)) l.marks l.i l.x;
}

abbrev pub decreases-loop-x : goal.decreases-loop-x
decreases-loop-x l = l.end - l.x
