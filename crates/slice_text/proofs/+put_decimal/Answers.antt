-- `put_decimal` meets its contract: the digits before the last, then the last.
use Rattle.std.proofs.Common.{◌≡◌, ◌%◌, arith}
use Rattle.slice_text.specs.Decimal.{digit}
use Rattle.slice_text.proofs.Puts.{put-length}
use Rattle.slice_text.proofs.Digits.{room-one, room-more, put-digit, put-digits}
use Rattle.slice_text.proofs.+put_decimal.Goals as goal

pub put_byte-requires : goal.put_byte-requires
put_byte-requires t c = room-one c.args.x c.if-x-lt10.true c.args.at c.requires

pub returns-then-x-lt10 : goal.returns-then-x-lt10
returns-then-x-lt10 t c = put-digit c.args.x c.if-x-lt10.true c.digit_of.ensures c.put_byte.ensures

pub put_decimal-end-requires : goal.put_decimal-end-requires
put_decimal-end-requires t c = let h = room-more c.args.x c.if-x-lt10.false c.args.at c.requires in (omega (arith, c.decreases), omega arith)

pub put_byte-requires-2 : goal.put_byte-requires-2
put_byte-requires-2 t c =
    let P = c.put_decimal-end.ensures in let h = room-more c.args.x c.if-x-lt10.false c.args.at c.requires in omega (arith, P.ends, put-length P)

pub returns : goal.returns
returns t c =
    let last : c.digit_of-2.result ≡ digit (c.args.x % 10) = omega (arith, c.digit_of-2.ensures) in
    put-digits c.args.x c.if-x-lt10.false last c.put_decimal-end.ensures c.put_byte-2.ensures
