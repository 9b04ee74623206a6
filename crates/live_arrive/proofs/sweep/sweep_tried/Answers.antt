-- `sweep_tried` meets its contract: the transitions before i are in range and swept.
use Rattle.std.proofs.Common.{◌≡◌, ◌∙◌, ◌<◌, ℕ, get_or, length, sym, ap₂, arith}
use Rattle.sets.proofs.Lists.{mem-at}
use Rattle.theory.specs.Run.{source_of}
use Rattle.table_lent.specs.Lent.{words_in}
use Rattle.table_lent.proofs.Reading.{words-in-length}
use Rattle.live_arrive.specs.Tried.{limit_of_lem}
use Rattle.live_arrive.proofs.Turns.{turn-start, turn-told, turn-refused, turn_end}
use Rattle.live_arrive.proofs.sweep.sweep_tried.Goals as goal

pub loop-i-init : goal.loop-i-init
loop-i-init c = turn-start c.requires.2

pub element-t-requires : goal.element-t-requires
element-t-requires c = omega (arith, words-in-length c.args.transitions.now)

-- the source of the transition that is read is in range
pub sweep_one-requires : goal.sweep_one-requires
sweep_one-requires c = let ts = words_in c.args.transitions.now in let m = mem-at ts c.loop-i.i (omega (arith, words-in-length c.args.transitions.now)) in
    rw c.element-t.ensures (omega (arith, c.requires.3 (get_or ts c.loop-i.i 0) m, c.loop-i.invariant.swept.long))

-- the limit of its letter, for a set as long as the one before
limit-at : (s a n k y z limit : ℕ) → limit ≡ limit_of_lem s n a z → k ≡ n → z ≡ y → limit ≡ limit_of_lem s k a y
limit-at s a n k y z limit h e f = h ∙ ap₂ (λ (u v : ℕ). limit_of_lem s u a v) (sym e) f

pub returns-then-not-sweep_one : goal.returns-then-not-sweep_one
returns-then-not-sweep_one c =
    let l = c.loop-i in let limit = limit-at c.args.s c.args.letter _ _ _ _ _ (c.limits_of-limits.ensures c.letter_of.result (omega arith)) l.invariant.swept.long c.letter_of.ensures in
    turn-refused c.requires.2 (omega (arith, words-in-length c.args.transitions.now)) c.element-t.ensures l.invariant (rw c.if-not-sweep_one.true at (c.sweep_one.ensures c.args.s c.requires.0 limit))

pub loop-i-preserved : goal.loop-i-preserved
loop-i-preserved c =
    let l = c.loop-i in let limit = limit-at c.args.s c.args.letter _ _ _ _ _ (c.limits_of-limits.ensures c.letter_of.result (omega arith)) l.invariant.swept.long c.letter_of.ensures in
    let ts = words_in c.args.transitions.now in let inside : l.i < length ts = omega (arith, words-in-length c.args.transitions.now) in let m = mem-at ts l.i inside in
    let source : source_of c.element-t.result < length l.set = rw c.element-t.ensures (omega (arith, c.requires.3 (get_or ts l.i 0) m, l.invariant.swept.long)) in
    turn-told c.requires.2 inside c.element-t.ensures l.invariant source (rw c.if-not-sweep_one.false at (c.sweep_one.ensures c.args.s c.requires.0 limit))

pub returns : goal.returns
returns c = turn_end c.requires.2 (omega (arith, words-in-length c.args.transitions.now)) c.loop-i.invariant
