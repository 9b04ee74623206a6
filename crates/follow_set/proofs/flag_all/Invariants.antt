-- `flag_all` meets its contract: the bytes before x are flags and counted, and the one at x is not 0.
use Rattle.std.proofs.Common.{◌≤◌, ◌<◌, ◌-◌, get_or}
use Rattle.live_set.specs.Sweeps.{flag_of_lem}
use Rattle.follow_set.proofs.Counts.{Counting}
use Rattle.follow_set.proofs.flag_all.Given as goal

abbrev pub invariant-loop-x : goal.invariant-loop-x
invariant-loop-x l = (l.x ≤ l.n) × Counting flag_of_lem l.fn.set l.set l.members l.x × (l.x < l.n → 0 < get_or l.set l.x 0)

abbrev pub decreases-loop-x : goal.decreases-loop-x
decreases-loop-x l = l.n - l.x
