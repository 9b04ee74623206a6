-- `raise` meets its contract: the nodes that are passed are raised.
use Rattle.table_runs.proofs.Flagging.{MarkedTo}
use Rattle.table_runs.proofs.raise.Given as goal

abbrev pub invariant-loop-mark : goal.invariant-loop-mark
invariant-loop-mark l = MarkedTo l.fn.marks (λ j. 2) l.mark-index l.marks
