-- `set_masks::union_over` meets its contract: r is the union over the states that are not left.
use Rattle.std.proofs.Common.{◌<◌}
use Rattle.set_masks.proofs.Over.{Joined}
use Rattle.set_masks.proofs.union_over.Given as goal

abbrev pub invariant-loop-left : goal.invariant-loop-left
invariant-loop-left l = (l.left < 256) × Joined l.es l.m l.r l.left

abbrev pub decreases-loop-left : goal.decreases-loop-left
decreases-loop-left l = l.left
