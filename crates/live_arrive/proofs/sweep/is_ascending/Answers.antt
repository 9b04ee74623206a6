-- `is_ascending` meets its contract: the test of the whole list is that of what is left of it, after `last`.
use Rattle.std.proofs.Common.{◌∙◌, sym, arith}
use Rattle.table_lent.specs.Lent.{words_in}
use Rattle.table_lent.proofs.Reading.{words-in-length}
use Rattle.live_arrive.proofs.Rises.{rises-none, rises-start, rises-four, falls-four, rises-one, falls-one, rises-end}
use Rattle.live_arrive.proofs.sweep.is_ascending.Goals as goal

pub returns-then-n-eq0 : goal.returns-then-n-eq0
returns-then-n-eq0 c = rises-none (words_in c.args.bytes.now) (omega (arith, words-in-length c.args.bytes.now))

pub element-last-requires : goal.element-last-requires
element-last-requires c = omega (arith, words-in-length c.args.bytes.now)

pub loop-i-init : goal.loop-i-init
loop-i-init c = (omega arith, rw c.element-last.ensures (rises-start (words_in c.args.bytes.now) (omega (arith, words-in-length c.args.bytes.now))))

pub rise_four-requires : goal.rise_four-requires
rise_four-requires c = omega (arith, words-in-length c.args.bytes.now)

pub returns-then-not-rise_four : goal.returns-then-not-rise_four
returns-then-not-rise_four c =
    falls-four (words_in c.args.bytes.now) c.loop-i.last c.loop-i.i (omega (arith, words-in-length c.args.bytes.now)) (sym c.rise_four.ensures ∙ c.if-not-rise_four.true) c.loop-i.invariant.1

pub element-last-requires-in-loop-i : goal.element-last-requires-in-loop-i
element-last-requires-in-loop-i c = omega (arith, words-in-length c.args.bytes.now)

pub loop-i-preserved : goal.loop-i-preserved
loop-i-preserved c = (
  omega arith,
  rw c.element-last-in-loop-i.ensures
      (rises-four (words_in c.args.bytes.now) c.loop-i.last c.loop-i.i (omega (arith, words-in-length c.args.bytes.now)) (sym c.rise_four.ensures ∙ c.if-not-rise_four.false) c.loop-i.invariant.1),
)

pub element-x-requires : goal.element-x-requires
element-x-requires c = omega (arith, words-in-length c.args.bytes.now)

pub returns-then-x-last : goal.returns-then-x-last
returns-then-x-last c =
    falls-one (words_in c.args.bytes.now) c.loop-j.last c.loop-j.j (omega (arith, words-in-length c.args.bytes.now)) (omega (arith, c.if-x-last.true, c.element-x.ensures)) c.loop-j.invariant

pub loop-j-preserved : goal.loop-j-preserved
loop-j-preserved c =
    rw c.element-x.ensures
    (rises-one (words_in c.args.bytes.now) c.loop-j.last c.loop-j.j (omega (arith, words-in-length c.args.bytes.now)) (omega (arith, c.if-x-last.false, c.element-x.ensures)) c.loop-j.invariant)

pub returns : goal.returns
returns c = rises-end (words_in c.args.bytes.now) c.loop-j.last c.loop-j.j (omega (arith, words-in-length c.args.bytes.now)) c.loop-j.invariant
