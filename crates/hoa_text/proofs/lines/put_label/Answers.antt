-- `put_label` meets its contract: each literal but the first has `&` before it, and there is room for both.
use Rattle.std.proofs.Common.{ap, length, arith}
use Rattle.slice_text.proofs.Puts.{put_as, put-length}
use Rattle.hoa_text.proofs.Labels.{label-none, label-one, label-grows, next-length, put_next}
use Rattle.hoa_text.proofs.lines.put_label.Goals as goal

pub put_byte-requires : goal.put_byte-requires
put_byte-requires c = omega (arith, ap length (label-none c.args.letter c.args.b c.if-b-eq0.true))

pub returns-then-b-eq0 : goal.returns-then-b-eq0
returns-then-b-eq0 c = put_as (label-none c.args.letter c.args.b c.if-b-eq0.true) c.put_byte.ensures

pub put_literal-end-requires : goal.put_literal-end-requires
put_literal-end-requires c = (omega arith, omega (arith, label-grows c.args.letter 1 c.args.b (omega arith) (omega arith), ap length (label-one c.args.letter)))

pub loop-i-init : goal.loop-i-init
loop-i-init c = put_as (label-one c.args.letter) c.put_literal-end.ensures

pub put_byte-a-requires : goal.put_byte-a-requires
put_byte-a-requires c = omega (arith, put-length c.loop-i.invariant, next-length c.args.letter c.loop-i.i c.args.b (omega arith) (omega arith))

pub put_literal-end-requires-in-loop-i : goal.put_literal-end-requires-in-loop-i
put_literal-end-requires-in-loop-i c = (
  omega arith,
  omega (arith, put-length c.loop-i.invariant, put-length c.put_byte-a.ensures, next-length c.args.letter c.loop-i.i c.args.b (omega arith) (omega arith)),
)

pub loop-i-preserved : goal.loop-i-preserved
loop-i-preserved c = put_next c.args.letter c.loop-i.i (omega arith) c.loop-i.invariant c.put_byte-a.ensures c.put_literal-end-in-loop-i.ensures
