-- `label_length` meets its contract: a literal is one byte or two, and one of `!` and `&` is before each but the first.
use Rattle.std.proofs.Common.{sym, ap, length, arith}
use Rattle.hoa_laws.proofs.Lengths.{label-length}
use Rattle.hoa_text.proofs.Labels.{label-none}
use Rattle.hoa_text.proofs.Counts.{label-counts, first-counts}
use Rattle.hoa_text.proofs.lengths.label_length.Goals as goal

pub returns-then-b-eq0 : goal.returns-then-b-eq0
returns-then-b-eq0 c = sym (ap length (label-none c.args.letter c.args.b c.if-b-eq0.true))

pub loop-i-init : goal.loop-i-init
loop-i-init c = omega (arith, first-counts c.args.letter)

pub overflow_add-total : goal.overflow_add-total
overflow_add-total c = omega (arith, label-length c.loop-i.i c.args.letter (omega arith))

pub loop-i-preserved : goal.loop-i-preserved
loop-i-preserved c = label-counts c.args.letter c.loop-i.i c.loop-i.total (omega arith) c.loop-i.invariant
