-- `tidy_lists` meets its contract: the entries passed are counted and laid out.
use Rattle.rule_tidy.proofs.Lists.{Passed}
use Rattle.rule_tidy.proofs.tidy_lists.Given as goal

abbrev pub invariant-loop-i : goal.invariant-loop-i
invariant-loop-i l = Passed l.counts l.clauses l.fn.counts2 l.fn.clauses2 l.counts2 l.clauses2 l.from l.to l.i
