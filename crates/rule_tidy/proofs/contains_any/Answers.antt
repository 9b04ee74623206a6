-- `contains_any` meets its contract: what `any` answers over the clauses.
use Rattle.std.proofs.Common.{rules}
use Rattle.sets.proofs.Chains.{any_is}
use Rattle.rule_tidy.proofs.contains_any.Goals as goal

pub returns : goal.returns
returns c = any_is _ _ _ (search rules) (search rules)
