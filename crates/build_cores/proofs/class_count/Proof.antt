-- `build_cores::class_count` meets its contract.
use Prim.Native.Nat.{◌+◌}
use mathlib.Core.Path.{◌≡◌, ap, ◌∙◌}
use native.Mathlib.Omega.{arith}
use lib.Count.{ones}
use Rattle.build_cores.specs.Used.{class_count_lem}
use Rattle.build_cores.proofs.Gaps.{ones-classes}
use borrow.Author.Rules.{rules}
use Rattle.build_cores.proofs.class_count.Statement.{statement}
use Rattle.build_cores.proofs.class_count.Tie as tie

-- one more than the classes
ones-of : (c : tie.After-used_ranks) → ones c.used_ranks.result ≡ class_count_lem c.before.args.ranks c.before.args.part + 1
ones-of c = ap ones c.used_ranks.ensures ∙ ones-classes c.before.args.ranks c.before.args.part

pub class_count_spec : {M : Type 1} → statement M
class_count_spec = tie.close (tie.spec (λ c κs. search rules) (λ c. let e = ones-of c in omega arith) (λ c. let e = ones-of c in omega arith))
