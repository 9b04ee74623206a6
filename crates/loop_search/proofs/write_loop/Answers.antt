-- `write_loop` meets its contract: one state more.
use Rattle.std.proofs.Common.{◌≡◌, arith}
use Rattle.loop_search.proofs.Writes.{may-follow, written_next, written_all}
use Rattle.loop_search.proofs.write_loop.Goals as goal

pub next_state-q-requires-clause-p_value : goal.next_state-q-requires-clause-p_value
next_state-q-requires-clause-p_value c = rw c.passes-passed.ensures (may-follow c.loop-i.invariant c.requires.n_bound.1 c.loop-i-test.true)

pub loop-i-preserved : goal.loop-i-preserved
loop-i-preserved c = let w = c.requires.n_bound in written_next c.loop-i.invariant w.1 w.2 c.loop-i-test.true c.passes-passed.ensures c.next_state-q.ensures

pub returns : goal.returns
returns c = let e : c.loop-i.i ≡ c.args.k = omega arith in written_all c.loop-i.invariant c.requires.n_bound.2 e
