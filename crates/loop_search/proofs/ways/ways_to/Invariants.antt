-- `ways_to` meets its contract: the walks of as many steps as were taken.
use Rattle.std.proofs.Common.{◌≡◌}
use Rattle.sets.specs.Masks.{bit}
use Rattle.loop_spec.specs.Search.{ways}
use Rattle.loop_search.proofs.ways.ways_to.Given as goal

abbrev pub invariant-loop : goal.invariant-loop
invariant-loop l = l.w ≡ ways l.n l.es (bit l.others) l.t l.counter
