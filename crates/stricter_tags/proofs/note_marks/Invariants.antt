-- `note_marks` meets its contract: the codes before i are noted.
use Rattle.std.proofs.Common.{◌/◌, ◌^◌, ltb, get_or}
use Rattle.sets.specs.Tests.{one}
use Rattle.stricter_laws.specs.Fill.{Filled}
use Rattle.stricter_tags.proofs.note_marks.Given as goal

abbrev pub invariant-loop-i : goal.invariant-loop-i
invariant-loop-i l = Filled (λ k. one (ltb 0 (get_or l.codes k 0 / 2 ^ 48))) 0 l.i l.fn.live l.live
