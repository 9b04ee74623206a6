-- `further_from` meets its contract: no loop of fewer states was met.
use Rattle.std.proofs.Common.{◌≡◌, ◌-◌}
use Rattle.sets.specs.Tests.{first}
use Rattle.sets.specs.Masks.{bit}
use Rattle.loop_spec.specs.Search.{ways}
use Rattle.loop_search.proofs.Steps.{mixed}
use Rattle.loop_search.proofs.ways.further_from.Given as goal

abbrev pub invariant-loop-k : goal.invariant-loop-k
invariant-loop-k l = (l.w ≡ ways l.n l.es (bit l.others) l.t l.k) × (first l.n (mixed l.n l.es l.others l.t) 0 ≡ first (l.n - l.k) (mixed l.n l.es l.others l.t) l.k)
