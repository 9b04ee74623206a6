-- `is_nested` meets its contract: what `any` answers over the places.
use Rattle.std.proofs.Common.{rules}
use Rattle.std.proofs.iter.runs.Sources.{ranges}
use Rattle.sets.proofs.Chains.{some_is}
use Rattle.file_spec.specs.RuleRows.{nested}
use Rattle.file_clauses.proofs.is_nested.Goals as goal

pub returns : goal.returns
unfolding nested
returns c = some_is _ _ _ (search (rules, ranges)) (search (rules, ranges))
