-- `sweep` meets its contract: the macrostates below x are through, and the transitions before `from` are swept.
use Rattle.std.proofs.Common.{◌≡◌, ◌+◌, length, arith}
use Rattle.table_lent.specs.Lent.{words_in}
use Rattle.follow_set.proofs.Sweeps.{sweeping-start, sweeping-over, sweeping-end}
use Rattle.follow_set.proofs.sweep.Goals as goal

pub loop-x-init : goal.loop-x-init
loop-x-init c =
    let pre = c.requires in let found = c.next_set-x.ensures in let ts = words_in c.args.transitions.now in let before = c.args.set.now in
    (found.within, omega arith, sweeping-over c.args.letter ts before pre.2 pre.4 before 0 _ 0 found.within found.before (sweeping-start c.args.letter ts before pre.2 pre.4))

pub loop-x-preserved : goal.loop-x-preserved
loop-x-preserved c =
    let pre = c.requires in let l = c.loop-x in let found = c.next_set-x-in-loop-x.ensures in let ts = words_in c.args.transitions.now in let before = c.args.set.now in
    let s = c.move_from-from.ensures.0 before pre.2 l.invariant.2 in
    (found.within, c.move_from-from.ensures.1, sweeping-over c.args.letter ts before pre.2 pre.4 _ (l.x + 1) _ _ found.within found.before s)

pub returns : goal.returns
returns c = let l = c.loop-x in let all : l.x ≡ length c.args.set.now = omega arith in
    sweeping-end c.args.letter (words_in c.args.transitions.now) c.args.set.now c.requires.2 c.requires.4 l.set l.from l.invariant.1 (rw all at l.invariant.2)
