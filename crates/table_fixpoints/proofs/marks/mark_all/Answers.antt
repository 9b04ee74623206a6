-- `mark_all` meets its contract: one transition more is done, whether or not it brought something new.
use Rattle.std.proofs.Common.{◌<◌, length, get_or, arith}
use Rattle.sets.proofs.Lists.{mem-at}
use Rattle.table_lent.specs.Lent.{in_both}
use Rattle.table_fixpoints_spec.specs.Marks.{ordered}
use Rattle.table_fixpoints_spec.proofs.Orders.{ordered-long, ordered-from}
use Rattle.graph_walks.proofs.Loops.{or-now, or-before, passed-next, passed-all}
use Rattle.table_fixpoints_spec.proofs.Marking.{pass-over}
use Rattle.table_fixpoints.proofs.marks.mark_all.Goals as goal
use Rattle.table_fixpoints.proofs.marks.mark_all.Goals.{then-mark_over, else-mark_over}

pub mark_over-requires : goal.mark_over-requires
mark_over-requires c =
    let back = c.args.back in let ts = (in_both c.args.moves.now c.args.movebytes.now).numbers in let us = ordered back ts in let i = c.loop-i.i in
    let inside : i < length us = omega (arith, ordered-long back ts) in
    rw (c.element_from-t.ensures, c.loop-i.auto.marks) (c.requires (get_or us i 0) (ordered-from back ts _ (mem-at us i inside)))

pub loop-i-preserved : goal.loop-i-preserved
loop-i-preserved c =
    let l = c.loop-i in let ts = (in_both c.args.moves.now c.args.movebytes.now).numbers in let us = ordered c.args.back ts in let long = ordered-long c.args.back ts in
    passed-next (pass-over c.args.letter c.args.here c.args.there) us c.args.marks.now l.marks _ l.changed c.mark_over.result _ l.i _ (omega arith) l.invariant
    c.element_from-t.ensures c.mark_over.ensures.0 c.mark_over.ensures.1 (elim c.if-mark_over.branch [
      | then-mark_over w ↦ rw w.changed-is (or-now l.changed _ w.if-mark_over.true)
      | else-mark_over w ↦ rw w.changed-is (or-before l.changed _ w.if-mark_over.false)
    ])

pub returns : goal.returns
returns c =
    let ts = (in_both c.args.moves.now c.args.movebytes.now).numbers in let long = ordered-long c.args.back ts in
    passed-all (pass-over c.args.letter c.args.here c.args.there) (ordered c.args.back ts) c.args.marks.now c.loop-i.marks c.loop-i.changed c.loop-i.i (omega arith) c.loop-i.invariant
