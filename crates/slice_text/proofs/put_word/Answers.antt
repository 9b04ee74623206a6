-- `slice_text::put_word` meets its contract: a blank, then the digits.
use Rattle.std.proofs.Common.{arith}
use Rattle.slice_text.specs.Decimal.{word}
use Rattle.slice_text.proofs.Decimal.{word-length}
use Rattle.slice_text.proofs.Puts.{put_then}
use Rattle.slice_text.proofs.put_word.Goals as goal

pub put_byte-end-requires : goal.put_byte-end-requires
put_byte-end-requires c = omega (arith, word-length c.args.x)

pub put_decimal-requires : goal.put_decimal-requires
put_decimal-requires c = omega (arith, word-length c.args.x)

pub returns : goal.returns
unfolding word
returns c = put_then c.put_byte-end.ensures c.put_decimal.ensures
