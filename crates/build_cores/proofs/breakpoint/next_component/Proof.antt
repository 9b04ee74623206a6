-- `build_cores::breakpoint::next_component` meets its contract.
use mathlib.Core.Path.{sym}
use Rattle.build_cores.proofs.Pairs.{next_last, next_more}
use borrow.Author.Rules.{rules}
use Rattle.build_cores.proofs.breakpoint.next_component.Statement.{statement}
use Rattle.build_cores.proofs.breakpoint.next_component.Tie as tie

pub next_component_spec : {M : Type 1} → statement M
next_component_spec =
    tie.close (tie.spec (λ c. search rules) (λ c. sym (next_last _ _ c.if-c-components.true)) (λ c. search rules) (λ c. sym (next_more _ _ c.if-c-components.false)))
