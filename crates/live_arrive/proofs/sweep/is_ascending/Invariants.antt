-- `is_ascending` meets its contract: the test of the whole list is that of what is left of it, after `last`.
use Rattle.std.proofs.Common.{◌≡◌, ◌-◌, ◌≤◌, drop}
use Rattle.slice_search.specs.Places.{ascends, ascends_from}
use Rattle.table_lent.specs.Lent.{words_in}
use Rattle.live_arrive.proofs.sweep.is_ascending.Given as goal

abbrev pub invariant-loop-i : goal.invariant-loop-i
invariant-loop-i l = (l.i ≤ l.n) × (ascends (words_in l.bytes) ≡ ascends_from l.last (drop l.i (words_in l.bytes)))

abbrev pub decreases-loop-i : goal.decreases-loop-i
decreases-loop-i l = l.n - l.i

abbrev pub invariant-loop-j : goal.invariant-loop-j
invariant-loop-j l = ascends (words_in l.bytes) ≡ ascends_from l.last (drop l.j (words_in l.bytes))
