-- `rise_four` meets its contract: each number is compared with the one before it.
use Rattle.std.proofs.Common.{◌∙◌, ℕ, ltb, ap₂, arith}
use Rattle.table_lent.specs.Lent.{words_in}
use Rattle.table_lent.proofs.Reading.{words-in-length}
use Rattle.live_arrive.proofs.Rises.{four-first, four-second, four-third, four-last}
use Rattle.live_arrive.proofs.sweep.rise_four.Goals as goal

pub returns-then-a-last : goal.returns-then-a-last
returns-then-a-last c = four-first c.args.last (words_in c.args.bytes.now) c.args.i (omega (arith, c.element-a.ensures))

pub overflow_add-i : goal.overflow_add-i
overflow_add-i c = omega (arith, words-in-length c.args.bytes.now)

pub returns-then-b-a : goal.returns-then-b-a
returns-then-b-a c = four-second c.args.last (words_in c.args.bytes.now) c.args.i (omega (arith, c.element-a.ensures)) (omega (arith, c.element-a.ensures, c.element-b.ensures))

pub overflow_add-i-2 : goal.overflow_add-i-2
overflow_add-i-2 c = omega (arith, words-in-length c.args.bytes.now)

pub returns-then-c-b : goal.returns-then-c-b
returns-then-c-b c = let first = c.element-a.ensures in let second = c.element-b.ensures in
    four-third c.args.last (words_in c.args.bytes.now) c.args.i (omega (arith, first)) (omega (arith, first, second)) (omega (arith, second, c.element-c.ensures))

pub overflow_add-i-3 : goal.overflow_add-i-3
overflow_add-i-3 c = omega (arith, words-in-length c.args.bytes.now)

pub returns : goal.returns
returns c = let first = c.element-a.ensures in let second = c.element-b.ensures in let third = c.element-c.ensures in ap₂ (λ (x y : ℕ). ltb x y) third c.element.ensures
    ∙ four-last c.args.last (words_in c.args.bytes.now) c.args.i (omega (arith, first)) (omega (arith, first, second)) (omega (arith, second, third))
