-- `element` meets its contract: a number of the table is the one of its eight bytes.
use Rattle.std.proofs.Common.{◌∙◌, sym, arith}
use Rattle.table_lent.proofs.Reading.{words-in-length, words-in-at}
use Rattle.live_arrive.proofs.sweep.element.Goals as goal

pub overflow_mul-i : goal.overflow_mul-i
overflow_mul-i c = omega (arith, words-in-length c.args.bytes.now)

pub word_at-requires : goal.word_at-requires
word_at-requires c = omega (arith, words-in-length c.args.bytes.now)

pub returns : goal.returns
returns c = c.word_at.ensures ∙ sym (words-in-at c.args.bytes.now c.args.i (omega (arith, words-in-length c.args.bytes.now)))
