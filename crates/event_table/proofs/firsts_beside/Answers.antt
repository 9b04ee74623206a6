-- `firsts_beside` meets its contract: one drive more.
use Rattle.std.proofs.Common.{eqb, get_or, bit_or, ◌∙◌, ap₂}
use Rattle.std.specs.Int.Bits.{bit_and}
use Rattle.std.specs.Int.Count.{count_trailing_zeros}
use Rattle.event_table.proofs.Turns.{union-start, union_more}
use Rattle.event_table.proofs.firsts_beside.Goals as goal

pub loop-drive-init : goal.loop-drive-init
loop-drive-init c = union-start (λ z j. eqb (count_trailing_zeros 64 (bit_and c.args.lines (get_or c.args.drives.now z 0))) j)

pub loop-drive-preserved : goal.loop-drive-preserved
loop-drive-preserved c = let a = c.args in let l = c.loop-drive in
    ap₂ bit_or l.invariant c.least-found.ensures ∙ union_more (λ z j. eqb (count_trailing_zeros 64 (bit_and a.lines (get_or a.drives.now z 0))) j) l.drive-index
