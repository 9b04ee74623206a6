-- `any_outside` meets its contract: what `any` answers over the bytes.
use Rattle.std.proofs.Common.{rules}
use Rattle.sets.proofs.Chains.{any_is}
use Rattle.file_names.proofs.any_outside.Goals as goal

pub returns : goal.returns
returns c = any_is _ _ _ (search rules) (search rules)
