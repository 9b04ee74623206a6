-- `has_astray` meets its contract: the transition at i is astray, or none is.
use Rattle.std.proofs.Common.{rules}
use Rattle.sets.proofs.Chains.{any_is}
use Rattle.table_rows.proofs.checks.has_astray.Goals as goal

pub returns-then-is_astray : goal.returns-then-is_astray
returns-then-is_astray c = any_is _ _ _ (search rules) (search rules)

pub returns : goal.returns
returns c = any_is _ _ _ (search rules) (search rules)
