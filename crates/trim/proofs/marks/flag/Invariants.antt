-- `flag` meets its contract: the codes before the index have their marks, and the others are as they were.
use Rattle.theory_laws.proofs.Tagged.{FlaggedTo}
use Rattle.trim.proofs.marks.flag.Given as goal

abbrev pub invariant-loop-c : goal.invariant-loop-c
invariant-loop-c l = FlaggedTo l.fn.codes l.c-index l.codes
