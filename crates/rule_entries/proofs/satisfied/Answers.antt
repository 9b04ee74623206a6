-- `satisfied` meets its contract: a clause is met exactly if the set satisfies the entry.
use Rattle.std.proofs.Common.{◌∙◌, ap}
use Rattle.std.specs.Prelude.{is_some}
use Rattle.rule_entries.specs.Entries.{rule_of}
use Rattle.rule_entries.proofs.Entries.{entry-states}
use Rattle.rule_entries.proofs.Clauses.{met-entry}
use Rattle.rule_entries.proofs.satisfied.Goals as goal

pub returns : goal.returns
returns c =
    let a = c.args in let p = c.requires in let r = rule_of a.h a.counts.now a.clauses.now in
    c.is_some.ensures ∙ ap is_some c.met_at.ensures ∙ met-entry _ _ _ p.0.few_states (entry-states r p.0 a.q a.a p.2 p.3)
