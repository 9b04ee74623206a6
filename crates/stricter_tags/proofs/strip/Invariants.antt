-- `strip` meets its contract: the numbers before the place have their low bits alone, the others are as they were.
use Rattle.std.proofs.Common.{◌%◌, ◌^◌, get_or}
use Rattle.stricter_laws.specs.Fill.{Filled}
use Rattle.stricter_tags.proofs.strip.Given as goal

abbrev pub invariant-loop-x : goal.invariant-loop-x
invariant-loop-x l = Filled (λ k. get_or l.fn.list k 0 % 2 ^ l.bits) 0 l.x-index l.fn.list l.list
