-- `take_digits` meets its contract: no number goes on with such a byte, and a digit is not the last byte.
use Rattle.std.proofs.Common.{refl, arith}
use Rattle.hoa_laws.proofs.Taking.{not_last, digits-high, digits-zero, digits-large, digits_more}
use Rattle.hoa_read_parts.proofs.lines.take_digits.Goals as goal

pub returns-then-c-gt57 : goal.returns-then-c-gt57
returns-then-c-gt57 c = let l = c.loop-q in
    digits-high c.args.text.now c.args.p c.args.v l.x l.q l.invariant.so_far l.invariant.inside c.if-c-gt57.true refl

pub returns-then-x-eq0 : goal.returns-then-x-eq0
returns-then-x-eq0 c = let l = c.loop-q in
    digits-zero c.args.text.now c.args.p c.args.v l.x l.q l.invariant.so_far l.invariant.inside c.if-c-lt48.false c.if-x-eq0.true refl

pub returns-then-x-gt65536 : goal.returns-then-x-gt65536
returns-then-x-gt65536 c = let l = c.loop-q in
    digits-large c.args.text.now c.args.p c.args.v l.x l.q l.invariant.so_far l.invariant.inside c.if-c-lt48.false (omega arith) refl

pub loop-q-preserved : goal.loop-q-preserved
loop-q-preserved c = let l = c.loop-q in record {
  inside = not_last c.args.text.now l.q c.requires.0 (omega arith) (omega arith);
  small = omega arith;
  so_far = digits_more c.args.text.now c.args.p c.args.v l.x l.q l.invariant.so_far l.invariant.inside c.if-c-lt48.false (omega arith) c.if-x-eq0.false;
}
