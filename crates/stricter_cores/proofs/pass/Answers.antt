-- `pass` meets its contract: a round for each component of the first side, then of the second.
use Rattle.std.proofs.Common.{sym, ◌∙◌, Bool, cond, ◌+◌, ◌*◌, arith}
use Rattle.sets.proofs.Bools.{or_l}
use Rattle.stricter_laws.proofs.Fitting.{ready-same}
use Rattle.stricter_laws.proofs.Turns.{pass_of}
use Rattle.stricter_cores.proofs.pass.Goals as goal

pub rounds-second-requires : goal.rounds-second-requires
rounds-second-requires c = let n = (c.rounds-first.ensures (λ s. cond s c.args.bcount c.args.acount) (omega arith)).narrowed in
    (ready-same _ n.long c.requires.0, λ i j l h. c.requires.1 i j l (n.sub (i * c.args.nb + j) h), n.low, c.requires.4)

pub returns-then-first : goal.returns-then-first
returns-then-first c = let n = λ (s : Bool). cond s c.args.bcount c.args.acount in
    pass_of _ (c.rounds-first.ensures n (omega arith)) (c.rounds-second.ensures n (omega arith))
    (c.if-first.true ∙ sym (or_l c.rounds-first.result c.rounds-second.result c.if-first.true))

pub returns-else-first : goal.returns-else-first
returns-else-first c = let n = λ (s : Bool). cond s c.args.bcount c.args.acount in
    pass_of _ (c.rounds-first.ensures n (omega arith)) (c.rounds-second.ensures n (omega arith)) (rw c.if-first.false)
