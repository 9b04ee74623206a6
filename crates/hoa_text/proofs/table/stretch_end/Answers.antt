-- `stretch_end` meets its contract: the list has a number for each 8 bytes.
use Rattle.std.proofs.Common.{arith}
use Rattle.table_lent.proofs.Reading.{words-in-length}
use Rattle.hoa_text.proofs.table.stretch_end.Goals as goal

pub number_at-requires : goal.number_at-requires
number_at-requires c = omega (arith, words-in-length c.args.moves.now)

pub returns : goal.returns
returns c = record {
  from = omega (arith, words-in-length c.args.moves.now);
  within = omega (arith, words-in-length c.args.moves.now);
  all = λ p h l. c.loop-k.invariant p h (omega (arith, words-in-length c.args.moves.now));
  last = λ m e. omega (arith, words-in-length c.args.moves.now);
}
