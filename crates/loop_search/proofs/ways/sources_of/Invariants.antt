-- `sources_of` meets its contract: the mask up to q.
use Rattle.std.proofs.Common.{◌≡◌, ◌&&◌}
use Rattle.sets.specs.Tests.{some_below}
use Rattle.sets.specs.Masks.{bit, mask}
use Rattle.loop_spec.specs.Search.{leads_by}
use Rattle.loop_search.proofs.ways.sources_of.Given as goal

abbrev pub invariant-loop-q : goal.invariant-loop-q
invariant-loop-q l = l.found ≡ mask l.q (λ p. some_below l.n (λ t. leads_by l.es p t && bit l.set t))
