-- `move_from` meets its contract: the transitions before i are swept, if those before `from` were.
use Rattle.std.proofs.Common.{List, ℕ, ◌≤◌, get_or, take}
use Rattle.table_lent.specs.Lent.{words_in}
use Rattle.live_set.specs.Sweeps.{Swept}
use Rattle.follow_set.specs.Sweeping.{Sweeping}
use Rattle.follow_set.proofs.move_from.Given as goal

abbrev pub invariant-loop-i : goal.invariant-loop-i
invariant-loop-i l = (before : List ℕ) → ((y : ℕ) → get_or before y 0 ≤ 1)
    → Sweeping l.letter (words_in l.transitions) before l.fn.set l.x l.from → Swept l.letter (take l.i (words_in l.transitions)) before l.set
