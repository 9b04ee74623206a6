-- `first_of` meets its contract: no number below i with the core of i has a pair below h.
use Rattle.stricter_tags_first.proofs.First.{None}
use Rattle.stricter_tags_first.proofs.first_of.Given as goal

abbrev pub invariant-loop-h : goal.invariant-loop-h
invariant-loop-h l = None l.codes l.i l.h
