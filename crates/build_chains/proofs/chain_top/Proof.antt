-- `build_chains::chain_top` meets its contract.
use Prim.Native.Nat.{ℕ, ◌<◌}
use mathlib.Core.Path.{ap}
use native.Mathlib.Omega.{arith}
use lib.ListN.{get_or}
use borrow.Author.Rules.{rules}
use Rattle.build_spec.proofs.Chains.{bucket-low}
use Rattle.build_chains.proofs.chain_top.Statement.{statement}
use Rattle.build_chains.proofs.chain_top.Tie as tie

known : (c : tie.After-bucket) → c.bucket.result < 16384
known c = rw c.bucket.ensures (bucket-low c.before.args.core)

returns : tie.Need-returns
returns c = let start : tie.Start = search in ap (λ (b : ℕ). get_or start.args.heads.now b 0) c.before.bucket.ensures

pub chain_top_spec : {M : Type 1} → statement M
chain_top_spec = tie.close (tie.spec (λ c κs. search rules) (λ c. omega (arith, known (search))) (λ c. known (search)) returns)
