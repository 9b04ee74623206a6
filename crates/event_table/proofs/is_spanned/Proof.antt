-- `event_table::is_spanned` meets its contract.
use mathlib.Core.Path.{sym}
use Rattle.event_table.proofs.Faults.{span_below, span-above}
use borrow.Author.Rules.{rules}
use Rattle.event_table.proofs.is_spanned.Statement.{statement}
use Rattle.event_table.proofs.is_spanned.Tie as tie

pub is_spanned_spec : {M : Type 1} → statement M
is_spanned_spec = tie.close (tie.spec
    (λ c. search rules) (λ c. search rules) (λ c. search rules) (λ c. sym (span_below _ _ _ _ c.if-x-events.true)) (λ c. search rules)
    (λ c. search rules) (λ c. span-above _ _ _ _ c.before.if-x-events.false))
