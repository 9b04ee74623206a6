-- `step` meets its contract: the sweep of a set of bytes 0 and 1, and the halves of what it left.
use Rattle.std.proofs.Common.{◌∙◌, ℕ, ap}
use Rattle.table_lent.specs.Lent.{words_in}
use Rattle.live_spec.specs.Afresh.{members_of}
use Rattle.follow_set.proofs.Letters.{swept-halved}
use Rattle.follow_set.proofs.step.Goals as goal

pub returns : goal.returns
returns c = (
  c.halve_all.ensures.0 ∙ swept-halved c.args.letter (words_in c.args.transitions.now) c.args.set.now _ c.requires.2 c.sweep.ensures,
  c.halve_all.ensures.1 ∙ ap (λ (n : ℕ). members_of n c.halve_all.new.set) c.sweep.ensures.long,
)
