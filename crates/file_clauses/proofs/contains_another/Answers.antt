-- `contains_another` meets its contract: what `any` answers over the places.
use Rattle.std.proofs.Common.{rules}
use Rattle.std.proofs.iter.runs.Sources.{ranges}
use Rattle.sets.proofs.Chains.{some_is}
use Rattle.file_clauses.proofs.contains_another.Goals as goal

pub returns : goal.returns
returns c = some_is _ _ _ (search (rules, ranges)) (search (rules, ranges))
