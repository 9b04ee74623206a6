-- `place_from` meets its contract: numbers before `low` are below x, those from `high` on are not.
use Rattle.std.proofs.Common.{ℕ, ◌≤◌, ◌<◌, ◌-◌, length, get_or}
use Rattle.table_lent.specs.Lent.{words_in}
use Rattle.follow_set.proofs.place_from.Given as goal

abbrev pub invariant-loop-low : goal.invariant-loop-low
invariant-loop-low l = record {
  ordered : (l.from ≤ l.low) × (l.low ≤ l.high) × (l.high ≤ length (words_in l.bytes));
  under : (k : ℕ) → l.from ≤ k → k < l.low → get_or (words_in l.bytes) k 0 < l.x;
  over : (k : ℕ) → l.high ≤ k → k < length (words_in l.bytes) → l.x ≤ get_or (words_in l.bytes) k 0;
}

abbrev pub decreases-loop-low : goal.decreases-loop-low
decreases-loop-low l = l.high - l.low
