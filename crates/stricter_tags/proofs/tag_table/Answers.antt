-- `tag_table` meets its contract: the codes of a rule's table ascend, and none has a component too many.
use Rattle.std.proofs.Common.{arith}
use Rattle.theory_laws.proofs.Tables.{macrostates-ascending}
use Rattle.stricter_laws.proofs.CoreTables.{codes-low}
use Rattle.stricter_tags_moves.proofs.Moves.{code-known}
use Rattle.stricter_tags.proofs.tag_table.Goals as goal

pub tag_codes-requires : goal.tag_codes-requires
tag_codes-requires c = let (r, s, T, few, e, f) = c.requires in (
  few,
  rw e (macrostates-ascending r T.shaped.passing s),
  λ j l. rw e (codes-low T.shaped.passing s (rw e at few) j (rw e at l), omega (arith, code-known T s (rw e at few) j (rw e at l))),
)
