-- `event_table::is_faulty` meets its contract.
use mathlib.Core.Path.{sym}
use native.Mathlib.Omega.{arith}
use Prim.Native.Nat.{◌+◌, ◌*◌}
use Rattle.event_table.proofs.Faults.{fault-kinds, fault-drives, fault-letter}
use borrow.Author.Rules.{rules}
use Rattle.event_table.proofs.is_faulty.Statement.{statement}
use Rattle.event_table.proofs.is_faulty.Tie as tie

cast-result : tie.Need-overflow_cast-result
cast-result c = let start : tie.Start = search in omega (arith, c.shared_slice_known-5-1.given (5 * start.args.j + 4))

returns-3 : tie.Need-returns
returns-3 c = let else1 : tie.Else-events-at = search in fault-letter _ _ _ else1.if-events-at.false c.before.if-events-at-2.false

pub is_faulty_spec : {M : Type 1} → statement M
is_faulty_spec = tie.close (tie.spec
    (λ c. search rules) (λ c. search rules) (λ c. search rules) (λ c. search rules) (λ c. sym (fault-kinds _ _ _ c.if-events-at.true)) (λ c. search rules)
    (λ c. search rules) (λ c. search rules) (λ c. search rules) (λ c. sym (fault-drives _ _ _ c.if-events-at-2.true)) (λ c. search rules)
    (λ c. search rules) cast-result returns-3)
