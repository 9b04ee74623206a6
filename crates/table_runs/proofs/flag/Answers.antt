-- `flag` meets its contract: node x gets the mark of its code.
use Rattle.std.proofs.Common.{refl, ◌∙◌, arith}
use Rattle.table_lent.specs.Lent.{in_both}
use Rattle.table_runs.proofs.Flagging.{mark-turn, flagged-set}
use Rattle.table_runs.proofs.flag.Goals as goal

pub loop-x-preserved : goal.loop-x-preserved
loop-x-preserved c =
    let l = c.loop-x in let e = c.flag_node.ensures ∙ flagged-set (in_both c.args.codes.now c.args.codebytes.now).numbers l.marks l.x in
    rw e (mark-turn _ (omega arith) refl l.invariant)
