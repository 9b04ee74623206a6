-- `is_ascending` meets its contract: each number is tried against the one before it.
use Rattle.std.proofs.Common.{◌<◌, ap, ◌∙◌, arith}
use Rattle.std.proofs.lemmas.List.{take_all}
use Rattle.slice_search.specs.Places.{ascends}
use Rattle.slice_search.proofs.Ascends.{ascends_none, ascends-start, ascends-on, ascends-not, ascends-end}
use Rattle.table_lent.specs.Lent.{in_both}
use Rattle.table_rows.proofs.checks.is_ascending.Goals as goal

pub returns-then-n-eq0 : goal.returns-then-n-eq0
returns-then-n-eq0 c = let xs = (in_both c.args.words.now c.args.bytes.now).numbers in
    ascends_none xs c.count-n.result c.if-n-eq0.true ∙ ap ascends (take_all c.count-n.result xs (omega arith))

pub loop-i-init : goal.loop-i-init
loop-i-init c = rw c.element-last.ensures (ascends-start (in_both c.args.words.now c.args.bytes.now).numbers c.count-n.result (omega arith) (omega arith))

pub returns-then-x-last : goal.returns-then-x-last
returns-then-x-last c = let xs = (in_both c.args.words.now c.args.bytes.now).numbers in let n = c.count-n.result in let l = c.loop-i in
    ascends-not xs n (omega arith) l.last l.i (omega arith) (omega (arith, c.if-x-last.true)) l.invariant ∙ ap ascends (take_all n xs (omega arith))

pub loop-i-preserved : goal.loop-i-preserved
loop-i-preserved c = let l = c.loop-i in let above : l.last < c.element-x.result = omega arith in
    rw c.element-x.ensures (ascends-on (in_both c.args.words.now c.args.bytes.now).numbers c.count-n.result (omega arith) l.last l.i (omega arith) (omega (arith, above)) l.invariant)

pub returns : goal.returns
returns c = let xs = (in_both c.args.words.now c.args.bytes.now).numbers in let n = c.count-n.result in let l = c.loop-i in
    ascends-end xs n (omega arith) l.last l.i (omega arith) l.invariant ∙ ap ascends (take_all n xs (omega arith))
