-- `clauses_satisfy` meets its contract: a clause is met exactly if the set satisfies the entry.
use Rattle.std.proofs.Common.{rules}
use Rattle.sets.proofs.Chains.{all_is}
use Rattle.rule_entries.proofs.Clauses.{met-satisfies}
use Rattle.rule_same.proofs.entries.clauses_satisfy.Goals as goal

pub returns : goal.returns
returns c = all_is _ _ _ (search (rules, met-satisfies)) (search (rules, met-satisfies))
