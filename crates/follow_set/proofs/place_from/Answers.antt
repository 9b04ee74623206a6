-- `place_from` meets its contract: numbers before `low` are below x, those from `high` on are not.
use Rattle.std.proofs.Common.{◌≡◌, ◌∙◌, ◌+◌, ◌-◌, ◌/◌, get_or, sym, arith}
use Rattle.table_lent.specs.Lent.{words_in}
use Rattle.table_lent.proofs.Reading.{words-in-length, words-in-at}
use Rattle.slice_search.proofs.Search.{go-up, go-down}
use Rattle.follow_set.proofs.place_from.Goals as goal

pub loop-low-init : goal.loop-low-init
loop-low-init c = let long = words-in-length c.args.bytes.now in record {
  ordered = (omega arith, omega (arith, c.requires.0, long), omega (arith, long));
  under = λ k l m. absurd (omega arith);
  over = λ k l m. absurd (omega (arith, long));
}

pub word_at-requires : goal.word_at-requires
word_at-requires c = omega (arith, words-in-length c.args.bytes.now)

pub overflow_mul-middle : goal.overflow_mul-middle
overflow_mul-middle c = omega (arith, words-in-length c.args.bytes.now)

pub loop-low-preserved-then-word_at-x : goal.loop-low-preserved-then-word_at-x
loop-low-preserved-then-word_at-x c =
    let l = c.loop-low in let xs = words_in c.args.bytes.now in let middle = l.low + (l.high - l.low) / 2 in
    let e : c.word_at.result ≡ get_or xs middle 0 = c.word_at.ensures ∙ sym (words-in-at c.args.bytes.now middle (omega (arith, words-in-length c.args.bytes.now))) in
    let up = go-up xs c.args.x c.requires.1 middle (omega arith) (omega (arith, e, c.if-word_at-x.true)) in
    record { ordered = (omega arith, omega arith, l.invariant.ordered.2); under = λ k i j. up k j; over = l.invariant.over }

pub loop-low-preserved : goal.loop-low-preserved
loop-low-preserved c =
    let l = c.loop-low in let xs = words_in c.args.bytes.now in let middle = l.low + (l.high - l.low) / 2 in
    let e : c.word_at.result ≡ get_or xs middle 0 = c.word_at.ensures ∙ sym (words-in-at c.args.bytes.now middle (omega (arith, words-in-length c.args.bytes.now))) in
    record { ordered = (l.invariant.ordered.0, omega arith, omega arith); under = l.invariant.under; over = go-down xs c.args.x c.requires.1 middle (omega (arith, e, c.if-word_at-x.false)) }

pub returns : goal.returns
returns c = let v = c.loop-low.invariant in record { ordered = v.ordered.0; within = omega arith; under = v.under; over = λ k i j. v.over k (omega arith) j }
