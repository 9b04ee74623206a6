-- `enter_lead` meets its contract: the places from p on are done.
use Rattle.table_lent.specs.Lent.{in_both}
use Rattle.table_runs.proofs.Entering.{DoneFrom}
use Rattle.table_runs.proofs.enter_lead.Given as goal

abbrev pub invariant-loop-p : goal.invariant-loop-p
invariant-loop-p l = DoneFrom l.n l.lead (in_both l.moves l.movebytes).numbers l.fn.marks l.p l.marks
