-- `solve` meets its contract: each round but the last takes a number out, and after the last all that is left is sound.
use Rattle.std.proofs.Common.{◌≡◌}
use Rattle.sets.specs.Lists.{sum}
use Rattle.graph_walks.proofs.Rounds.{Kept}
use Rattle.trim_spec.specs.Graph.{Step}
use Rattle.trim_spec.specs.Tagged.{highs, lows}
use Rattle.trim.proofs.marks.solve.Given as goal

abbrev pub invariant-loop : goal.invariant-loop
invariant-loop l = Kept (Step l.transitions) (highs l.fn.codes) (highs l.codes) × (lows l.codes ≡ lows l.fn.codes)

abbrev pub decreases-loop : goal.decreases-loop
decreases-loop l = sum (highs l.codes)
