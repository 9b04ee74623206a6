-- `rule_components::both_kinds` meets its contract.
use mathlib.Core.Path.{◌≡◌, sym}
use mathlib.Core.Bool.{false, ◌&&◌}
use native.Mathlib.Omega.{arith}
use Rattle.sets.specs.Tests.{some_below}
use Rattle.rule_components.proofs.Mixed.{accepted, rejected, none-accepted, some-accepted, some-rejected}
use Rattle.rule_components.proofs.both_kinds.Statement.{statement}
use Rattle.rule_components.proofs.both_kinds.Tie as tie

returns : tie.Need-returns-then-accepted-eq0
returns c = let k = c.before.args.class in let a = c.before.args.accepting in
    let none : (some_below 8 (accepted k a) && some_below 8 (rejected k a)) ≡ false = rw (none-accepted k a c.if-accepted-eq0.true) in sym none

returns-2 : tie.Need-returns
returns-2 c =
    let k = c.before.args.class in let a = c.before.args.accepting in rw (some-accepted k a (omega arith) (omega arith) c.if-accepted-eq0.false) (some-rejected k a (omega arith) (omega arith))

pub both_kinds_spec : {M : Type 1} → statement M
both_kinds_spec = tie.close (tie.spec returns returns-2)
