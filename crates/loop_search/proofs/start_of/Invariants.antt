-- `start_of` meets its contract: the least length below t, and the first state that has it.
use Rattle.loop_search.proofs.Starts.{Least, from}
use Rattle.loop_search.proofs.start_of.Given as goal

abbrev pub invariant-loop-t : goal.invariant-loop-t
invariant-loop-t l = Least l.n (from l.n l.es l.accepting) l.t l.at l.further
