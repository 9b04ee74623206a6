-- `build_cores::sizes` meets its contract.
use Prim.Native.Nat.{ℕ, ◌*◌}
use mathlib.Core.Path.{◌≡◌, ap, ◌∙◌}
use native.Mathlib.Omega.{arith}
use lib.Count.{ones}
use Rattle.build_cores.specs.Used.{sizes_of}
use Rattle.build_cores.proofs.Gaps.{sizes-low, sizes-are}
use borrow.Author.Rules.{rules}
use Rattle.build_cores.proofs.sizes.Statement.{statement}
use Rattle.build_cores.proofs.sizes.Tie as tie

-- the product
product : (c : tie.After-nibbles_of) → c.nibbles_of.result * ones c.before.args.part ≡ sizes_of c.before.args.part
product c = ap (λ (x : ℕ). x * ones c.before.args.part) c.nibbles_of.ensures ∙ sizes-are c.before.args.part (omega arith)

pub sizes_spec : {M : Type 1} → statement M
sizes_spec = tie.close (tie.spec (λ c κs. search rules) (λ c. omega (arith, product c, sizes-low c.before.args.part)) (λ c. product c))
