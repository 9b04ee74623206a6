-- `repeat_cycle` meets its contract: the bytes before i are right; p is the place of the step i - first.
use Rattle.std.proofs.Common.{◌≡◌, ◌<◌, ◌-◌, length, []}
use Rattle.theory.specs.Word.{next_place_lem, place}
use Rattle.sheet_cycles.proofs.Repeats.{Right}
use Rattle.sheet_cycles.proofs.masks.repeat_cycle.Given as goal

abbrev pub invariant-loop-i : goal.invariant-loop-i
invariant-loop-i l = (l.p < length l.cycle) × (l.p ≡ place (next_place_lem [] l.cycle) (l.i - l.first)) × Right l.cycle l.first l.end l.fn.block l.block l.i
