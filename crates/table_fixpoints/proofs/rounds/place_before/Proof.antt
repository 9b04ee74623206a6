-- `table_fixpoints::rounds::place_before` meets its contract.
use borrow.Author.Rules.{rules}
use Rattle.table_fixpoints_spec.proofs.Waiting.{before-first, before-other}
use Rattle.table_fixpoints.proofs.rounds.place_before.Statement.{statement}
use Rattle.table_fixpoints.proofs.rounds.place_before.Tie as tie

pub place_before_spec : {M : Type 1} → statement M
place_before_spec = tie.close (tie.spec
    (λ c. search rules) (λ c. before-first c.before.args.c c.before.args.p c.if-p-eq0.true) (λ c. search rules)
    (λ c. before-other c.before.args.c c.before.args.p c.if-p-eq0.false))
