-- `build_cores::nibbles_of` meets its contract.
use native.Mathlib.Omega.{arith}
use Rattle.build_cores.proofs.Nibbles.{spread-right}
use Rattle.build_cores.proofs.nibbles_of.Statement.{statement}
use Rattle.build_cores.proofs.nibbles_of.Tie as tie

pub nibbles_of_spec : {M : Type 1} → statement M
nibbles_of_spec = tie.close (tie.spec (λ c. spread-right c.args.m (omega arith)))
