-- `solve_round` meets its contract: a sweep and what it leaves settled are a round.
use Rattle.std.proofs.Common.{◌∙◌}
use Rattle.graph_walks.proofs.Rounds.{solve-round}
use Rattle.trim.proofs.marks.solve_round.Goals as goal

pub returns : goal.returns
returns c = (solve-round _ _ _ _ _ c.requires.1 c.sweep_out.ensures.0 c.settle.ensures.0, c.settle.ensures.1 ∙ c.sweep_out.ensures.1)
