-- `build_step_back::core_of` meets its contract.
use Prim.Native.Nat.{◌<◌}
use native.Mathlib.Omega.{arith}
use lib.Bits.{bit_xor, xor_lt}
use Rattle.codes.proofs.Low.{put_byte}
use Rattle.build_step_back.proofs.core_of.Statement.{statement}
use Rattle.build_step_back.proofs.core_of.Tie as tie

-- the set is a mask of eight states
small : (c : tie.Start) → bit_xor c.args.opened c.args.accepting < 256
small c = xor_lt 8 c.args.opened c.args.accepting (omega arith) (omega arith)

returns : tie.Need-returns
returns c = put_byte c.args.ranks (bit_xor c.args.opened c.args.accepting) (omega arith) (small c)

pub core_of_spec : {M : Type 1} → statement M
core_of_spec = tie.close (tie.spec (λ c. omega (arith, small c)) returns)
