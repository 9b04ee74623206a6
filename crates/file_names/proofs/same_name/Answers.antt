-- `same_name` meets its contract: slices are equal where all their bytes are.
use Rattle.std.proofs.Common.{◌*◌, ◌∙◌, arith}
use Rattle.file_names.proofs.Tests.{same-parts}
use Rattle.file_names.proofs.same_name.Goals as goal

pub returns : goal.returns
returns c = let a = c.args in c.eq.ensures ∙ same-parts a.names.now (8 * a.a) (8 * a.b) _ _ (omega arith) (omega arith) c.requires.0 c.requires.1
