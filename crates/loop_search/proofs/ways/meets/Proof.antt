-- `loop_search::ways::meets` meets its contract.
use native.Mathlib.Omega.{arith}
use Rattle.rule_components.proofs.Mixed.{none-accepted, some-accepted}
use Rattle.loop_search.proofs.ways.meets.Statement.{statement}
use Rattle.loop_search.proofs.ways.meets.Tie as tie

pub meets_spec : {M : Type 1} → statement M
meets_spec = tie.close (tie.spec
    (λ c. let a = c.before.args in rw (none-accepted a.a a.b c.if-a-b-eq0.true))
    (λ c. let a = c.before.args in rw (some-accepted a.a a.b (omega arith) (omega arith) c.if-a-b-eq0.false)))
