-- `flag_all` meets its contract: the bytes before the index are flags, and the others are as they were.
use Rattle.live_set.specs.Sweeps.{flag_of_lem}
use Rattle.live_set.proofs.Sets.{Through}
use Rattle.live_set.proofs.flag_all.Given as goal

abbrev pub invariant-loop-v : goal.invariant-loop-v
invariant-loop-v l = Through flag_of_lem l.fn.set l.set l.v-index
