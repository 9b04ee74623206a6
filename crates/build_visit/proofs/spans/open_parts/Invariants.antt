-- `build_visit::spans::open_parts` meets its contract: the parts so far are cut to the open states, the others are as they were.
use Rattle.std.proofs.Common.{◌≡◌, ℕ, ◌<◌, ◌≤◌, get_or}
use lib.Bits.{bit_and}
use Rattle.build_visit.proofs.spans.open_parts.Given as goal

abbrev pub invariant-loop-part : goal.invariant-loop-part
invariant-loop-part l = record {
  cut : (k : ℕ) → k < l.part-index → get_or l.part-items k 0 ≡ bit_and (get_or l.parts k 0) l.x;
  left : (k : ℕ) → l.part-index ≤ k → get_or l.part-items k 0 ≡ get_or l.parts k 0;
}
