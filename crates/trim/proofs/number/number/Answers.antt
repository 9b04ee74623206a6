-- `number` meets its contract: the codes before the index carry their numbers, of which k is the last.
use Rattle.std.proofs.Common.{arith}
use Rattle.std.proofs.lemmas.List.{set-get_or}
use Rattle.theory_laws.proofs.Rewriting.{none-numbered, number-skip, number_put, number-room, all-numbered}
use Rattle.trim.proofs.number.number.Goals as goal
use Rattle.trim.proofs.number.number.Goals.{then-c-ne0, else-c-ne0}

pub loop-c-init : goal.loop-c-init
loop-c-init c = none-numbered _

pub carrying-requires : goal.carrying-requires
carrying-requires c = let l = c.loop-c in number-room c.args.codes.now l.codes l.k l.c-index (omega arith) l.invariant (omega arith) c.requires

pub overflow_add-k : goal.overflow_add-k
overflow_add-k c = let l = c.loop-c in omega (arith, number-room c.args.codes.now l.codes l.k l.c-index (omega arith) l.invariant (omega arith) c.requires)

pub loop-c-preserved : goal.loop-c-preserved
loop-c-preserved c = let l = c.loop-c in elim c.if-c-ne0.branch [
  | then-c-ne0 w ↦ rw (w.codes-is, w.k-is)
      (number_put c.args.codes.now l.codes l.k l.c-index (omega arith) l.invariant w.carrying.result (omega arith) w.carrying.ensures.0 w.carrying.ensures.1)
  | else-c-ne0 w ↦ rw (w.codes-is, w.k-is, set-get_or) (number-skip c.args.codes.now l.codes l.k l.c-index (omega arith) l.invariant (omega arith))
]

pub returns : goal.returns
returns c = all-numbered c.args.codes.now c.loop-c.codes c.loop-c.k c.loop-c.c-index (omega arith) c.loop-c.invariant
