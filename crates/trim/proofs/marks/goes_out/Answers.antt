-- `goes_out` meets its contract: it is the definition.
use Rattle.std.proofs.Common.{refl}
use Rattle.graph_walks.specs.Marks.{goes_out_lem}
use Rattle.trim.proofs.marks.goes_out.Goals as goal

pub returns : goal.returns
unfolding goes_out_lem
returns c = refl
