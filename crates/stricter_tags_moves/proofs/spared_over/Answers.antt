-- `spared_over` meets its contract: the step back from a core gives its levels.
use Rattle.std.proofs.Common.{◌∙◌, arith}
use Rattle.sets.specs.Masks.{mask}
use Rattle.build_spec.proofs.Letters.{rises}
use Rattle.build_spec.proofs.Starting.{few}
use Rattle.stricter_tags_moves.specs.Spared.{spared_in_lem}
use Rattle.stricter_tags_moves.proofs.Moves.{over-is}
use Rattle.stricter_tags_moves.proofs.Spared.{mask-small}
use Rattle.stricter_tags_moves.proofs.spared_over.Goals as goal

pub step_back-before-requires : goal.step_back-before-requires
step_back-before-requires c = let T = c.requires.0.1 in (few T.shaped, rises T c.args.letter c.requires.2 c.requires.1 c.lowest-low.result c.lowest-low.ensures)

pub returns : goal.returns
returns c = let f = spared_in_lem c.args.ranks c.args.parts.now c.step_back-before.result.levels in (
  omega (arith, c.spared_in.ensures, mask-small c.args.shape.components f (few c.requires.0.1.shaped)),
  λ r T x d N e G. ◌∙◌ {b = mask c.args.shape.components f} c.spared_in.ensures
      (over-is T c.requires.2 c.requires.1 c.lowest-low.ensures c.step_back-before.ensures N e G),
)
