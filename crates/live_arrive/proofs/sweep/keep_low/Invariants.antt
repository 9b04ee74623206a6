-- `keep_low` meets its contract: the bytes before the index have bit 0 alone, and the others are as they were.
use Rattle.std.proofs.Common.{◌%◌}
use Rattle.live_set.proofs.Sets.{Through}
use Rattle.live_arrive.proofs.sweep.keep_low.Given as goal

abbrev pub invariant-loop-v : goal.invariant-loop-v
invariant-loop-v l = Through (λ x. x % 2) l.fn.set l.set l.v-index
