-- `sweep_tried` meets its contract: the transitions before i are in range and swept.
use Rattle.table_lent.specs.Lent.{words_in}
use Rattle.live_arrive.proofs.Turns.{Turn}
use Rattle.live_arrive.proofs.sweep.sweep_tried.Given as goal

abbrev pub invariant-loop-i : goal.invariant-loop-i
invariant-loop-i l = Turn l.s l.letter (words_in l.transitions) l.fn.set l.set l.i
