-- `spared_in` meets its contract: a component more is a digit more.
use Rattle.std.proofs.Common.{◌+◌, refl, arith}
use Rattle.sets.specs.Masks.{mask}
use Rattle.stricter_tags_moves.specs.Spared.{spared_in_lem}
use Rattle.stricter_tags_moves.proofs.Spared.{mask-put, mask-small}
use Rattle.stricter_tags_moves.proofs.spared_in.Goals as goal

pub loop-k-init : goal.loop-k-init
unfolding mask
loop-k-init c = refl

pub overflow_add-spared : goal.overflow_add-spared
overflow_add-spared c =
    let f = spared_in_lem c.args.ranks c.args.parts.now c.args.levels.now in
    let p = mask-put c.loop-k.k c.loop-k.spared c.spared_by.result f (omega arith) c.loop-k.invariant (rw c.class_count-classes.ensures at c.spared_by.ensures) in
    omega (arith, p, mask-small (c.loop-k.k + 1) f (omega arith))

pub loop-k-preserved : goal.loop-k-preserved
loop-k-preserved c = mask-put c.loop-k.k c.loop-k.spared c.spared_by.result _ (omega arith) c.loop-k.invariant (rw c.class_count-classes.ensures at c.spared_by.ensures)
