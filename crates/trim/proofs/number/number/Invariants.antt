-- `number` meets its contract: the codes before the index carry their numbers, of which k is the last.
use Rattle.theory_laws.proofs.Rewriting.{NumberedTo}
use Rattle.trim.proofs.number.number.Given as goal

abbrev pub invariant-loop-c : goal.invariant-loop-c
invariant-loop-c l = NumberedTo l.fn.codes l.codes l.k l.c-index
