-- `rule_tidy::is_dropped` meets its contract: the two tests, in order.
use mathlib.Core.Path.{sym, ◌∙◌}
use borrow.Author.Rules.{rules}
use Rattle.rule_tidy.proofs.Laws.{drops-kept, drops-rest}
use Rattle.rule_tidy.proofs.is_dropped.Statement.{statement}
use Rattle.rule_tidy.proofs.is_dropped.Tie as tie

returns : tie.Need-returns-then-contains_any
returns c = let start : tie.Start = search in let a = start.args in drops-kept a.clauses.now a.kept.now a.c (sym c.before.contains_any.ensures ∙ c.if-contains_any.true)

returns-2 : tie.Need-returns
returns-2 c = let start : tie.Start = search in let a = start.args in let at-contains-any : tie.After-contains_any = search in
    c.contains_any-2.ensures ∙ drops-rest a.clauses.now a.kept.now a.c (sym at-contains-any.contains_any.ensures ∙ c.before.if-contains_any.false)

pub is_dropped_spec : {M : Type 1} → statement M
is_dropped_spec = tie.close (tie.spec (λ c κs. search rules) returns (λ c κs. search rules) returns-2)
