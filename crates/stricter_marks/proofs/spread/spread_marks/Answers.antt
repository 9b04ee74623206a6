-- `spread_marks` meets its contract: the row of i takes its marks after those before it.
use Rattle.std.proofs.Common.{◌≡◌, length, arith}
use native.Mathlib.Nat.{suc-mul}
use native.Mathlib.Numerals.{add-one}
use Rattle.stricter_marks.proofs.Rows.{moved_row, moved-end, out-row, out-later}
use Rattle.stricter_marks.proofs.spread.spread_marks.Goals as goal

pub spread_row-requires-clause-standing : goal.spread_row-requires-clause-standing
spread_row-requires-clause-standing c = let a = c.args.acodes.now in let b = c.args.bcodes.now in
    (c.requires.3, c.requires.4, out-later a b c.loop-i.i c.loop-i.invariant (out-row a b c.args.marks.now c.requires.5 c.loop-i.i (omega arith)))

pub loop-i-preserved : goal.loop-i-preserved
loop-i-preserved c =
    rw (add-one c.loop-i.i, suc-mul c.loop-i.i (length c.args.bcodes.now))
    (moved_row _ _ c.requires.3 c.requires.4 c.loop-i.i (omega arith) c.loop-i.invariant c.spread_row.ensures)

pub returns : goal.returns
returns c = let e : c.loop-i.i ≡ length c.args.acodes.now = omega arith in moved-end _ _ (rw e at c.loop-i.invariant)
