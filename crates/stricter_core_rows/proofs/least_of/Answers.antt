-- `least_of` meets its contract: the digit tells what is spared.
use Rattle.stricter_core_rows.proofs.Parts.{digit-spares, digit_not}
use Rattle.stricter_core_rows.proofs.least_of.Goals as goal

pub returns-then-t-k-eq1 : goal.returns-then-t-k-eq1
returns-then-t-k-eq1 c = rw (digit-spares c.args.t c.args.ask.k c.if-t-k-eq1.true)

pub returns : goal.returns
returns c = rw (digit_not c.args.t c.args.ask.k c.if-t-k-eq1.false)
