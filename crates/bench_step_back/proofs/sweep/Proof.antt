-- `bench_step_back::sweep` meets its contract: it goes on from vector to vector until the largest.
use Rattle.std.proofs.Common.{◌-◌, ◌^◌, ◌<◌, arith, rules}
use Rattle.build_cores.specs.Vectors.{Within}
use Rattle.build_cores.proofs.Next.{within-next}
use Rattle.build_cores.proofs.Vectors.{within-zero, within-le}
use Rattle.build_spec.proofs.Starting.{caps-low}
use Rattle.build_spec.proofs.Walk.{walk-less}
use Rattle.bench_step_back.proofs.sweep.Statement.{statement}
use Rattle.bench_step_back.proofs.sweep.Tie as tie

abbrev invariant-loop : tie.invariant-loop-t
invariant-loop shape opens parts caps done₀ t₀ done t = Within 8 t caps

abbrev decreases-loop : tie.decreases-loop-t
decreases-loop shape opens parts caps done₀ t₀ done t = caps - t

loop-holds : tie.Need-loop-t-init invariant-loop decreases-loop
loop-holds c = let a = c.args in let p = c.requires in within-zero a.caps (rw p.1 (caps-low p.0.1.shaped))

next-ranks-requires : tie.Need-next_ranks-t-requires invariant-loop decreases-loop
next-ranks-requires c κs =
    let start : tie.Start invariant-loop decreases-loop = search in let a = start.args in let p = start.requires in let at-loop : tie.At-loop-t invariant-loop decreases-loop = search in let l = at-loop.loop-t in
    let low : a.caps < 2 ^ 32 = rw p.1 (caps-low p.0.1.shaped) in (low, omega (arith, within-le 8 l.t a.caps l.invariant), l.invariant, c.if-t-caps.false)

loop-less : tie.Need-loop-t-smaller invariant-loop decreases-loop
loop-less c =
    let at-loop : tie.At-loop-t invariant-loop decreases-loop = search in let l = at-loop.loop-t in let start : tie.Start invariant-loop decreases-loop = search in
    rw c.next_ranks-t.ensures (walk-less start.args.caps l.t l.invariant c.before.if-t-caps.false)

loop-again : tie.Need-loop-t-preserved invariant-loop decreases-loop
loop-again c =
    let start : tie.Start invariant-loop decreases-loop = search in let a = start.args in let at-loop : tie.At-loop-t invariant-loop decreases-loop = search in let l = at-loop.loop-t in
    rw c.next_ranks-t.ensures (within-next 8 l.t a.caps l.invariant c.before.if-t-caps.false)

pub sweep_spec : {M : Type 1} → statement M
sweep_spec = tie.close (tie.spec
    invariant-loop decreases-loop loop-holds (λ c κs. let p = c.before.requires in (p.0, rw p.1 at c.loop-t.invariant)) (λ c. search rules) next-ranks-requires
    loop-less loop-again)
