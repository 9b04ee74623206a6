-- `skip_words` meets its contract: bytes before i are 0.
use Rattle.std.proofs.Common.{◌-◌, ◌≤◌}
use Rattle.slice_search.specs.Zeros.{Zeros}
use Rattle.slice_search.proofs.bytes.skip_words.Given as goal

abbrev pub invariant-loop-i : goal.invariant-loop-i
invariant-loop-i l = Zeros l.xs l.fn.from l.i × (l.i ≤ l.to)

abbrev pub decreases-loop-i : goal.decreases-loop-i
decreases-loop-i l = l.to - l.i
