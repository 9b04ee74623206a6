-- `starts_of` meets its contract: the elements before i are the sums of the counts before them.
use Rattle.std.proofs.Common.{ℕ, ◌≡◌, ◌*◌, ◌<◌, ◌≤◌, length, take, get_or}
use Rattle.sets.specs.Lists.{sum}
use Rattle.rule_entries.proofs.starts_of.Given as goal

abbrev pub invariant-loop-i : goal.invariant-loop-i
invariant-loop-i l = record {
  long : length l.starts ≡ 128;
  total : l.total ≡ sum (take l.i l.counts);
  small : l.total ≤ 255 * l.i;
  starts : (j : ℕ) → j < l.i → get_or l.starts j 0 ≡ sum (take j l.counts);
}
