-- `write_loop` meets its contract: the states written so far, then the route from the state that is next.
use Rattle.loop_search.proofs.Writes.{Written}
use Rattle.loop_search.proofs.write_loop.Given as goal

abbrev pub invariant-loop-i : goal.invariant-loop-i
invariant-loop-i l = Written l.n l.es l.others l.t l.k l.fn.out l.i l.out l.q l.passed
