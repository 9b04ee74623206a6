-- `loop_search::ways::others_of` meets its contract.
use mathlib.Core.Path.{sym, ◌∙◌}
use Rattle.loop_search.proofs.Steps.{others-accepting, others-rejecting}
use borrow.Author.Rules.{rules}
use Rattle.loop_search.proofs.ways.others_of.Statement.{statement}
use Rattle.loop_search.proofs.ways.others_of.Tie as tie

returns : tie.Need-returns-then-contains
returns c =
    let start : tie.Start = search in let a = start.args in let w = start.requires in let at-contains : tie.After-contains = search in let then1 : tie.Then-contains = search in
    let e = sym at-contains.contains.ensures ∙ then1.if-contains.true in rw c.before.full.ensures at c.difference.ensures ∙ others-accepting a.n a.accepting a.t w.0 e

returns-2 : tie.Need-returns
returns-2 c =
    let start : tie.Start = search in let a = start.args in let w = start.requires in others-rejecting a.n a.accepting a.t w.2 (sym c.before.contains.ensures ∙ c.if-contains.false)

pub others_of_spec : {M : Type 1} → statement M
others_of_spec = tie.close (tie.spec
    (λ c. search rules) (λ c κs. search rules) (λ c. search rules) (λ c κs. search rules) (λ c κs. search rules) returns returns-2)
