-- `find_cycle` meets its contract: none of the first k is the cycle.
use Rattle.sheet_cycles.proofs.Known.{NotTo}
use Rattle.sheet_cycles.proofs.learning.find_cycle.Given as goal

abbrev pub invariant-loop-k : goal.invariant-loop-k
invariant-loop-k l = NotTo l.sheet l.from l.size l.cycle l.k
