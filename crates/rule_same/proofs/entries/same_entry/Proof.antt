-- `rule_same::entries::same_entry` meets its contract.
use mathlib.Core.Path.{sym, ◌∙◌}
use Rattle.sets.proofs.Bools.{not_t, not_f}
use borrow.Author.Rules.{rules}
use Rattle.rule_same.proofs.entries.same_entry.Statement.{statement}
use Rattle.rule_same.proofs.entries.same_entry.Tie as tie

returns-2 : tie.Need-returns
returns-2 c =
    let at-clauses-satisfy : tie.After-clauses_satisfy = search in rw (sym at-clauses-satisfy.clauses_satisfy.ensures ∙ c.before.if-not-clauses_satisfy.false) c.clauses_satisfy-2.ensures

pub same_entry_spec : {M : Type 1} → statement M
same_entry_spec = tie.close (tie.spec
    (λ c κs. search rules) (λ c. rw (sym c.before.clauses_satisfy.ensures ∙ c.if-not-clauses_satisfy.true)) (λ c κs. search rules) returns-2)
