-- `has_unknown` meets its contract: no event before k is unknown.
use Rattle.std.proofs.Common.{◌≡◌, ℕ, List, false, not}
use Rattle.sets.specs.Tests.{some_below}
use Rattle.event_spec.specs.Events.{known}
use Rattle.event_table.specs.Masks.{Masks}
use Rattle.event_translate.proofs.log.has_unknown.Given as goal

abbrev pub invariant-loop-k : goal.invariant-loop-k
invariant-loop-k l = (t : List ℕ) → Masks t l.kinds l.drives → some_below l.k (λ z. not (known t l.log z)) ≡ false
