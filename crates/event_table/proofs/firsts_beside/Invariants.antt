-- `firsts_beside` meets its contract: the least lines beside the drives passed.
use Rattle.std.proofs.Common.{◌≡◌, eqb, get_or}
use Rattle.std.specs.Int.Bits.{bit_and}
use Rattle.std.specs.Int.Count.{count_trailing_zeros}
use Rattle.sets.specs.Tests.{some_below}
use Rattle.sets.specs.Masks.{mask}
use Rattle.event_table.proofs.firsts_beside.Given as goal

abbrev pub invariant-loop-drive : goal.invariant-loop-drive
invariant-loop-drive l = l.found ≡ mask 64 (λ j. some_below l.drive-index (λ z. eqb (count_trailing_zeros 64 (bit_and l.lines (get_or l.drives z 0))) j))
