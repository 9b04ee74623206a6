-- `slice_search::bytes::next_set` meets its contract: bytes before i are 0.
use Rattle.slice_search.specs.Zeros.{Zeros}
use Rattle.slice_search.proofs.bytes.next_set.Given as goal

abbrev pub invariant-loop-i : goal.invariant-loop-i
invariant-loop-i l = Zeros l.xs l.fn.from l.i
