-- `codes::classes_of` meets its contract: the mask 15 leaves the lowest four bits.
use Rattle.std.proofs.Common.{◌/◌, ◌^◌}
use lib.Bits.{and_mask}
use Rattle.theory.specs.Code.{classes_in}
use Rattle.codes.proofs.classes_of.Goals as goal

pub returns : goal.returns
unfolding classes_in
returns c = and_mask (c.args.code / 2 ^ 44) 4
