-- `sweep_out` meets its contract: each sweep but the last marks a number.
use Rattle.std.proofs.Common.{◌≡◌, ◌*◌, ◌-◌, length}
use Rattle.sets.specs.Lists.{sum}
use Rattle.graph_walks.specs.Rounds.{Marking}
use Rattle.trim_spec.specs.Graph.{Step}
use Rattle.trim_spec.specs.Tagged.{highs, lows}
use Rattle.trim.proofs.marks.sweep_out.Given as goal

abbrev pub invariant-loop : goal.invariant-loop
invariant-loop l = Marking (Step l.transitions) (highs l.fn.codes) (highs l.codes) × (lows l.codes ≡ lows l.fn.codes)

abbrev pub decreases-loop : goal.decreases-loop
decreases-loop l = 4 * length (highs l.fn.codes) - sum (highs l.codes)
