-- `step_over` meets its contract: the set has been taken over the letters before i.
use Rattle.table_lent.specs.Lent.{words_in}
use Rattle.follow_set.proofs.Letters.{Going}
use Rattle.follow_set.proofs.step_over.Given as goal

abbrev pub invariant-loop-i : goal.invariant-loop-i
invariant-loop-i l = Going (words_in l.transitions) l.letters l.fn.set l.set l.left l.i
