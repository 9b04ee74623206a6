-- `build_visit::spans::is_fresh` meets its contract: nothing new stands before the letters below a.
use Rattle.std.proofs.Common.{ℕ, ◌+◌, ◌*◌, ◌<◌, ◌≤◌, get_or}
use lib.Bits.{bit_xor}
use Rattle.build_visit.proofs.spans.is_fresh.Given as goal

abbrev pub invariant-loop-a : goal.invariant-loop-a
invariant-loop-a l = (b : ℕ) → b < l.a → get_or l.last (bit_xor (get_or l.opens (b * 256 + l.x) 0) l.shape.accepting) 0 ≤ l.from
