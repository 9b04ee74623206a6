-- `table_fixpoints::fixpoints::settled_mark` meets its contract.
use mathlib.Core.Path.{◌≡◌}
use Prim.Native.Nat.{◌-◌}
use borrow.Author.Rules.{rules}
use borrow.Author.Tests.{lt-ltb, le-ltb}
use native.Mathlib.Omega.{arith}
use Rattle.graph_walks.specs.Marks.{settled}
use Rattle.table_fixpoints.proofs.fixpoints.settled_mark.Statement.{statement}
use Rattle.table_fixpoints.proofs.fixpoints.settled_mark.Tie as tie

returns : tie.Need-returns-then-v-lt3
unfolding settled
returns c = let v = c.before.args.v in let out : settled v ≡ 0 = rw (lt-ltb v 3 (omega arith)) in omega arith

returns-2 : tie.Need-returns
unfolding settled
returns-2 c = let v = c.before.args.v in let back : settled v ≡ v - 2 = rw (le-ltb v 3 (omega arith)) in omega arith

pub settled_mark_spec : {M : Type 1} → statement M
settled_mark_spec = tie.close (tie.spec returns (λ c. search rules) returns-2)
