-- `event_table::least` meets its contract.
use Prim.Native.Nat.{◌<◌}
use native.Mathlib.Omega.{arith}
use lib.Count.{count_trailing_zeros}
use Rattle.sets.proofs.Members.{least_lt}
use Rattle.event_table.proofs.Turns.{least-empty, least-mask}
use Rattle.event_table.proofs.least.Statement.{statement}
use Rattle.event_table.proofs.least.Tie as tie

-- a line of a mask that is not empty
below : (c : tie.Else-m-eq0) → count_trailing_zeros 64 c.before.args.m < 64
below c = least_lt 64 c.before.args.m (omega (arith, c.if-m-eq0.false)) (omega arith)

pub least_spec : {M : Type 1} → statement M
least_spec = tie.close (tie.spec
    (λ c. least-empty c.before.args.m c.if-m-eq0.true) (λ c. omega (arith, below c)) (λ c. omega (arith, below c))
    (λ c. least-mask c.before.args.m (omega (arith, c.if-m-eq0.false)) (omega arith)))
