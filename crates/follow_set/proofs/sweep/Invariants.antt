-- `sweep` meets its contract: the macrostates below x are through, and the transitions before `from` are swept.
use Rattle.std.proofs.Common.{◌≤◌, ◌-◌, length}
use Rattle.table_lent.specs.Lent.{words_in}
use Rattle.follow_set.specs.Sweeping.{Sweeping}
use Rattle.follow_set.proofs.sweep.Given as goal

abbrev pub invariant-loop-x : goal.invariant-loop-x
invariant-loop-x l = (l.x ≤ l.n) × (l.from ≤ length (words_in l.transitions)) × Sweeping l.letter (words_in l.transitions) l.fn.set l.set l.x l.from

abbrev pub decreases-loop-x : goal.decreases-loop-x
decreases-loop-x l = l.n - l.x
