-- `mark_all` meets its contract: the transitions before i are done, those from i on are left.
use Rattle.table_lent.specs.Lent.{in_both}
use Rattle.table_fixpoints_spec.specs.Marks.{ordered}
use Rattle.table_fixpoints_spec.proofs.Marking.{pass-over}
use Rattle.graph_walks.proofs.Loops.{PassedTo}
use Rattle.table_fixpoints.proofs.marks.mark_all.Given as goal

abbrev pub invariant-loop-i : goal.invariant-loop-i
invariant-loop-i l = PassedTo (pass-over l.letter l.here l.there) (ordered l.back (in_both l.moves l.movebytes).numbers) l.fn.marks l.marks l.changed l.i
