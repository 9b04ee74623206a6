-- `table_call::starts::is_start` meets its contract.
use native.Mathlib.Omega.{arith}
use borrow.Author.Tests.{lt-ltb, le-ltb}
use borrow.Author.Rules.{rules}
use Rattle.table_call.proofs.starts.is_start.Statement.{statement}
use Rattle.table_call.proofs.starts.is_start.Tie as tie

pub is_start_spec : {M : Type 1} → statement M
is_start_spec = tie.close (tie.spec
    (λ c. rw (le-ltb 0 c.before.args.mark (omega (arith, c.if-mark-eq0.true)))) (λ c κs. search rules)
    (λ c. let start : tie.Start = search in rw (lt-ltb 0 start.args.mark (omega (arith, c.before.if-mark-eq0.false))) c.is_initial.ensures))
