-- `propositions_of` meets its contract: each number of letters has its own case.
use Rattle.std.proofs.Common.{arith}
use Rattle.hoa_text.proofs.Propositions.{none_needed, one-needed, two-needed, three-needed, four-needed}
use Rattle.hoa_text.proofs.lines.propositions_of.Goals as goal

pub returns-then-s-le1 : goal.returns-then-s-le1
returns-then-s-le1 c = (none_needed c.args.s c.if-s-le1.true, omega arith)

pub returns-then-s-le2 : goal.returns-then-s-le2
returns-then-s-le2 c = (one-needed c.args.s (omega arith) c.if-s-le2.true, omega arith)

pub returns-then-s-le4 : goal.returns-then-s-le4
returns-then-s-le4 c = (two-needed c.args.s (omega arith) c.if-s-le4.true, omega arith)

pub returns-then-s-le8 : goal.returns-then-s-le8
returns-then-s-le8 c = (three-needed c.args.s (omega arith) c.if-s-le8.true, omega arith)

pub returns : goal.returns
returns c = (four-needed c.args.s (omega arith) c.requires, omega arith)
