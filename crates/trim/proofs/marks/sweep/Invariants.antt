-- `sweep` meets its contract: what the transitions before the index marked, and that `news` counts those that brought something new.
use Rattle.std.proofs.Common.{◌≡◌, ◌≤◌, ltb}
use Rattle.graph_walks.proofs.Loops.{PassedTo}
use Rattle.theory_laws.proofs.Sweeping.{pass-swept}
use Rattle.trim_spec.specs.Tagged.{highs, lows}
use Rattle.trim.proofs.marks.sweep.Given as goal

abbrev pub invariant-loop-t : goal.invariant-loop-t
invariant-loop-t l = PassedTo pass-swept l.transitions (highs l.fn.codes) (highs l.codes) (ltb 0 l.news) l.t-index × (lows l.codes ≡ lows l.fn.codes) × (l.news ≤ l.t-index)
