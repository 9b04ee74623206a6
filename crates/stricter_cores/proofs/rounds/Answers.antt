-- `rounds` meets its contract: the round of component k comes after those before it.
use Rattle.std.proofs.Common.{◌≡◌, refl, arith}
use Rattle.stricter_laws.proofs.Fitting.{ready-same, only-sub}
use Rattle.stricter_laws.proofs.Turns.{side-next}
use Rattle.stricter_cores.proofs.rounds.Goals as goal

pub round-changed-requires : goal.round-changed-requires
round-changed-requires c = let n = (c.loop-k.invariant (λ s. c.args.count) (omega arith)).narrowed in
    (ready-same _ n.long c.requires.0, only-sub _ _ c.args.marks.now _ n.sub c.requires.1, n.low, omega arith, refl)

pub loop-k-preserved : goal.loop-k-preserved
loop-k-preserved c = λ n l. side-next _ (omega arith) (c.loop-k.invariant n l) c.round-changed.ensures refl

pub returns : goal.returns
returns c = let e : c.loop-k.k ≡ c.args.count = omega arith in rw e at c.loop-k.invariant
