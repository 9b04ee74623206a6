-- `next_between` meets its contract: no byte before x is one of those looked for.
use Rattle.std.proofs.Common.{ℕ, ◌-◌, ◌≤◌, ◌<◌, get_or}
use Rattle.slice_search.proofs.bytes.next_between.Given as goal

abbrev pub invariant-loop-x : goal.invariant-loop-x
invariant-loop-x l = (l.fn.from ≤ l.x) × (l.x ≤ l.to) × ((y : ℕ) → l.fn.from ≤ y → y < l.x → l.low ≤ get_or l.xs y 0 → l.high ≤ get_or l.xs y 0)

abbrev pub decreases-loop-x : goal.decreases-loop-x
decreases-loop-x l = l.to - l.x
