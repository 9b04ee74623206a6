-- `note_marks` meets its contract: one more code is noted.
use Rattle.std.proofs.Common.{arith}
use Rattle.stricter_laws.proofs.Fill.{filled_next}
use Rattle.stricter_tags.proofs.note_marks.Goals as goal

pub loop-i-preserved : goal.loop-i-preserved
loop-i-preserved c = filled_next _ (omega arith) (omega arith) c.loop-i.invariant c.is_marked.ensures
