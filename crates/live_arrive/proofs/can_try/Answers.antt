-- `can_try` meets its contract: each test that was passed is one of the facts.
use Rattle.std.proofs.Common.{arith}
use Rattle.table_lent.proofs.Reading.{words-in-length}
use Rattle.live_arrive.proofs.can_try.Goals as goal

pub returns : goal.returns
returns c = let w = words-in-length c.args.codes.now in λ e. record {
  known = omega arith;
  free = omega arith;
  long = omega arith;
  whole = omega arith;
  whole_transitions = omega arith;
  few = omega arith;
  fits = omega arith;
  coded = c.codes_pass.ensures c.if-not-codes_pass.false;
  flags = λ y l. c.has_flags.ensures e y (omega arith);
}
