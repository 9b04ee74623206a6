-- `sweep` meets its contract: it has gone over the transitions before i.
use Rattle.std.proofs.Common.{take}
use Rattle.table_lent.specs.Lent.{words_in}
use Rattle.live_set.specs.Sweeps.{Swept}
use Rattle.live_set.proofs.sweep.Given as goal

abbrev pub invariant-loop-i : goal.invariant-loop-i
invariant-loop-i l = Swept l.letter (take l.i (words_in l.transitions)) l.fn.set l.set
