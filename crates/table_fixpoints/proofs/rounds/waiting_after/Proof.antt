-- `table_fixpoints::rounds::waiting_after` meets its contract.
use mathlib.Core.Bool.{not}
use mathlib.Core.Path.{ap}
use native.Mathlib.Omega.{arith}
use borrow.Author.Rules.{rules}
use Rattle.table_fixpoints_spec.proofs.Waiting.{waits-old, waits-few, waits-many}
use Rattle.table_fixpoints.proofs.rounds.waiting_after.Statement.{statement}
use Rattle.table_fixpoints.proofs.rounds.waiting_after.Tie as tie

pub waiting_after_spec : {M : Type 1} → statement M
waiting_after_spec = tie.close (tie.spec
    (λ c. search rules) (λ c. waits-old c.before.args.new c.before.args.waiting (ap not c.if-not-new.true))
    (λ c. let start : tie.Start = search in waits-few start.args.new start.args.waiting (ap not c.before.if-not-new.false) c.if-waiting-lt2.true) (λ c. search rules)
    (λ c. let start : tie.Start = search in waits-many start.args.new start.args.waiting (ap not c.before.if-not-new.false) (omega arith)))
