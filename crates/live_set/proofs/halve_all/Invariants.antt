-- `halve_all` meets its contract: the bytes before the index are halved, and the others are as they were.
use Rattle.std.proofs.Common.{◌/◌}
use Rattle.live_set.proofs.Sets.{Through}
use Rattle.live_set.proofs.halve_all.Given as goal

abbrev pub invariant-loop-v : goal.invariant-loop-v
invariant-loop-v l = Through (λ v. v / 2) l.fn.set l.set l.v-index
