-- `codes::pack_transition` meets its contract: the three fields stand side by side.
use Rattle.codes.proofs.Packing.{three-fields}
use Rattle.codes.proofs.pack_transition.Goals as goal

pub returns : goal.returns
returns c = three-fields c.args.source c.args.letter c.args.target c.requires.0 c.requires.1 c.requires.2
