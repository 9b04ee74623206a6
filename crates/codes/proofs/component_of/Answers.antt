-- `codes::component_of` meets its contract: the mask 15 leaves the lowest four bits.
use Rattle.std.proofs.Common.{◌/◌, ◌^◌}
use lib.Bits.{and_mask}
use Rattle.theory.specs.Code.{component_in}
use Rattle.codes.proofs.component_of.Goals as goal

pub returns : goal.returns
unfolding component_in
returns c = and_mask (c.args.code / 2 ^ 40) 4
