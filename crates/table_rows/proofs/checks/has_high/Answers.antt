-- `has_high` meets its contract: the number at i is high, or no number is.
use Rattle.std.proofs.Common.{rules}
use Rattle.sets.proofs.Chains.{any_is}
use Rattle.table_rows.proofs.checks.has_high.Goals as goal

pub returns-then-element-ne0 : goal.returns-then-element-ne0
returns-then-element-ne0 c = any_is _ _ _ (search rules) (search rules)

pub returns : goal.returns
returns c = any_is _ _ _ (search rules) (search rules)
