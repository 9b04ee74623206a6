-- `settle` meets its contract: the codes before the index are settled, and `changed` says whether an accepting one of them went out.
use Rattle.std.proofs.Common.{◌≡◌}
use Rattle.graph_walks.specs.Rounds.{Settling}
use Rattle.trim_spec.specs.Tagged.{highs, lows}
use Rattle.trim.proofs.marks.settle.Given as goal

abbrev pub invariant-loop-c : goal.invariant-loop-c
invariant-loop-c l = Settling 0 l.c-index (highs l.fn.codes) (highs l.codes) l.changed × (lows l.codes ≡ lows l.fn.codes)
