-- `halve_all` meets its contract: the bytes before x are halved and counted.
use Rattle.std.proofs.Common.{◌≤◌, ◌-◌, ◌/◌}
use Rattle.follow_set.proofs.Counts.{Counting}
use Rattle.follow_set.proofs.halve_all.Given as goal

abbrev pub invariant-loop-x : goal.invariant-loop-x
invariant-loop-x l = (l.x ≤ l.n) × Counting (λ v. v / 2) l.fn.set l.set l.members l.x

abbrev pub decreases-loop-x : goal.decreases-loop-x
decreases-loop-x l = l.n - l.x
