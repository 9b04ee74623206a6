-- `masks_of` meets its contract: one value more.
use Rattle.std.proofs.Common.{arith}
use Rattle.sets.specs.Masks.{mask}
use Rattle.sets.proofs.Walks.{put_next}
use Rattle.event_spec.specs.Events.{line_count, spans}
use Rattle.event_table.proofs.Turns.{masks-whole}
use Rattle.event_table.proofs.masks_of.Goals as goal

pub loop-x-preserved : goal.loop-x-preserved
loop-x-preserved c = let a = c.args in let l = c.loop-x in
    put_next (λ z. mask (line_count a.events.now) (spans a.events.now a.i z)) l.lines-items l.x c.spanning.result (omega arith) c.spanning.ensures l.invariant

pub returns : goal.returns
returns c = masks-whole _ _ _ (omega arith) (λ z k. c.loop-x.invariant z (omega arith))
