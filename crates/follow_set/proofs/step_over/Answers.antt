-- `step_over` meets its contract: the set has been taken over the letters before i.
use Rattle.std.proofs.Common.{◌≡◌, ◌∙◌, ℕ, length, get_or, ap, ap₂, length-drop, arith}
use Rattle.table_lent.specs.Lent.{words_in}
use Rattle.live_spec.specs.Afresh.{stepped, members_of}
use Rattle.follow_set.proofs.Letters.{going_start, going_next, going-stop, going_end}
use Rattle.follow_set.proofs.step_over.Goals as goal

pub loop-i-init : goal.loop-i-init
loop-i-init c = going_start (words_in c.args.transitions.now) c.args.letters.now c.args.set.now c.args.members c.requires.1 c.requires.2

pub returns-then-left-eq0 : goal.returns-then-left-eq0
returns-then-left-eq0 c = let l = c.loop-i in going-stop (words_in c.args.transitions.now) c.args.letters.now c.args.set.now l.set l.left l.i c.if-left-eq0.true l.invariant

pub loop-i-preserved : goal.loop-i-preserved
loop-i-preserved c =
    let l = c.loop-i in let g = l.invariant in let ts = words_in c.args.transitions.now in
    let same = c.step-left.ensures.0 ∙ ap (λ (n : ℕ). stepped n ts (get_or c.args.letters.now l.i 0) l.set) g.long in
    rw same (going_next ts c.args.letters.now c.args.set.now l.set l.left l.i _ (omega arith) c.if-left-eq0.false g (c.step-left.ensures.1 ∙ ap₂ members_of g.long same))

pub returns : goal.returns
returns c =
    let l = c.loop-i in let n = length c.args.letters.now in let all : l.i ≡ n = omega arith in
    going_end (words_in c.args.transitions.now) c.args.letters.now c.args.set.now l.set l.left n (omega (arith, length-drop n c.args.letters.now)) (rw all at l.invariant)
