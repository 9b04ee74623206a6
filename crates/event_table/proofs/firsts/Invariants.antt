-- `firsts` meets its contract: the lines that are first for an event of the kinds passed.
use Rattle.std.proofs.Common.{◌≡◌, eqb, get_or}
use Rattle.std.specs.Int.Bits.{bit_and}
use Rattle.std.specs.Int.Count.{count_trailing_zeros}
use Rattle.sets.specs.Tests.{some_below}
use Rattle.sets.specs.Masks.{mask}
use Rattle.event_table.proofs.firsts.Given as goal

abbrev pub invariant-loop-kind : goal.invariant-loop-kind
invariant-loop-kind l =
    l.found ≡ mask 64 (λ j. some_below l.kind-index (λ z. some_below 256 (λ y. eqb (count_trailing_zeros 64 (bit_and (get_or l.kinds z 0) (get_or l.drives y 0))) j)))
