-- `place_row` meets its contract: a row is cleared or told by whether its number stands.
use Rattle.stricter_laws.proofs.Fill.{filled-same}
use Rattle.stricter_marks.specs.Rows.{placed_at}
use Rattle.stricter_marks.proofs.Rows.{stands-no, stands-yes, clear-same, stand-same}
use Rattle.stricter_marks.proofs.spread.place_row.Goals as goal

pub returns-then-standing-eq0 : goal.returns-then-standing-eq0
returns-then-standing-eq0 c =
    filled-same (placed_at c.args.acodes.now c.args.bcodes.now) c.clear_row.ensures (clear-same _ _ _ (stands-no _ _ _ c.standing.ensures c.if-standing-eq0.true))

pub returns : goal.returns
returns c =
    filled-same (placed_at c.args.acodes.now c.args.bcodes.now) c.stand_row.ensures (stand-same _ _ _ (stands-yes _ _ _ c.standing.ensures c.if-standing-eq0.false))
