-- `build_transitions::transitions::chain` meets its contract: the code at place p becomes a key, which goes into its chain.
use Rattle.std.proofs.Common.{◌≡◌, arith, length, get_or}
use Rattle.build_spec.proofs.Chaining.{key-read, key-low, chaining-start, chaining-next}
use Rattle.build_transitions.proofs.transitions.chain.Goals as goal

pub loop-p-init : goal.loop-p-init
loop-p-init c = chaining-start c.requires.0

pub put-requires : goal.put-requires
put-requires c = let a = c.args in let l = c.loop-p in let low = c.requires.2 l.p c.loop-p-test.true in
    (l.invariant.chained, omega (arith, l.invariant.long), rw (key-read l.invariant low) (key-low (get_or a.codes.now l.p 0) low))

pub loop-p-preserved : goal.loop-p-preserved
loop-p-preserved c = let l = c.loop-p in let e = c.put.ensures in let p = c.requires in
    rw (e.0, e.1, e.2) (chaining-next l.invariant p.1 p.2 c.loop-p-test.true (key-read l.invariant (p.2 l.p c.loop-p-test.true)))

pub returns : goal.returns
returns c = let l = c.loop-p in let e : l.p ≡ length c.args.codes.now = omega arith in (rw e at l.invariant.chained, λ p h. l.invariant.done p (omega arith))
