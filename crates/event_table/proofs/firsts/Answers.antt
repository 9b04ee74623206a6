-- `firsts` meets its contract: one kind more.
use Rattle.std.proofs.Common.{eqb, get_or, bit_or, ◌∙◌, ap₂}
use Rattle.std.specs.Int.Bits.{bit_and}
use Rattle.std.specs.Int.Count.{count_trailing_zeros}
use Rattle.sets.specs.Tests.{some_below}
use Rattle.event_table.proofs.Turns.{union-start, union_more}
use Rattle.event_table.proofs.firsts.Goals as goal

pub loop-kind-init : goal.loop-kind-init
loop-kind-init c = let a = c.args in union-start (λ z j. some_below 256 (λ y. eqb (count_trailing_zeros 64 (bit_and (get_or a.kinds.now z 0) (get_or a.drives.now y 0))) j))

pub loop-kind-preserved : goal.loop-kind-preserved
loop-kind-preserved c = let a = c.args in let l = c.loop-kind in
    ap₂ bit_or l.invariant c.firsts_beside-found.ensures
    ∙ union_more (λ z j. some_below 256 (λ y. eqb (count_trailing_zeros 64 (bit_and (get_or a.kinds.now z 0) (get_or a.drives.now y 0))) j)) l.kind-index
