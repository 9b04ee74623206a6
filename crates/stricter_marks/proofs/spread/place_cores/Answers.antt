-- `place_cores` meets its contract: all rows together are all pairs.
use Rattle.std.proofs.Common.{◌≡◌, length, arith}
use Rattle.stricter_marks.proofs.Rows.{placed_end}
use Rattle.stricter_marks.proofs.spread.place_cores.Goals as goal

pub returns : goal.returns
returns c = let e : c.loop-i.i ≡ length c.args.acodes.now = omega arith in placed_end _ _ c.requires.0 (rw e at c.loop-i.invariant)
