-- `settle` meets its contract: the nodes from `from` to i are settled.
use Rattle.graph_walks.specs.Rounds.{Settling}
use Rattle.table_fixpoints.proofs.fixpoints.settle.Given as goal

abbrev pub invariant-loop-i : goal.invariant-loop-i
invariant-loop-i l = Settling l.from l.i l.fn.marks l.marks l.changed
