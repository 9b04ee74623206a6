-- `set_masks::union_over` meets its contract: the mask of the least state left joins the union.
use Rattle.std.proofs.Common.{◌-◌, arith}
use lib.Bits.{and_le_r}
use Rattle.set_masks.proofs.Over.{turn, done}
use Rattle.set_masks.proofs.union_over.Goals as goal

pub loop-left-preserved : goal.loop-left-preserved
loop-left-preserved c =
    let l = c.loop-left in
    (omega (arith, and_le_r l.left (l.left - 1)), turn c.args.es.now c.args.m l.r l.left (omega arith) (omega arith) l.invariant.1)

pub returns : goal.returns
returns c = done c.args.es.now c.args.m c.loop-left.r c.loop-left.left c.loop-left-test.false c.loop-left.invariant.1
