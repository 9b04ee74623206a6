-- `parent` meets its contract.
use mathlib.Core.Path.{refl}
use native.Mathlib.Omega.{arith}
use native.Mathlib.Nat.{mul-le-mul_right}
use borrow.Author.Rules.{rules}
use lib.ListN.{length}
use Rattle.stricter_laws.proofs.Expand.{searchable-paired}
use Rattle.stricter_laws.proofs.Pairs.{Parts, parts}
use Rattle.stricter_laws.proofs.Parents.{parent-far}
use Rattle.stricter_word.proofs.lasso.parent.Statement.{statement}
use Rattle.stricter_word.proofs.lasso.parent.Tie as tie

-- the two numbers of y
own : (c : tie.Start) → Parts (length c.args.lcodes.now) (length c.args.rcodes.now) c.args.y
own c = parts _ _ c.args.y c.requires.2

mul-result : tie.Need-overflow_mul-result
mul-result c = let start : tie.Start = search in let h = mul-le-mul_right (length start.args.rcodes.now) c.before.source_for-i.ensures.low in omega (arith, start.requires.1.few)

add-result : tie.Need-overflow_add-result
add-result c =
    let start : tie.Start = search in let h = mul-le-mul_right (length start.args.rcodes.now) c.before.source_for-i.ensures.low in
    omega (arith, start.requires.1.few, c.source_for-j.ensures.low)

returns-2 : tie.Need-returns
returns-2 c = let start : tie.Start = search in let a = start.args in record {
  near = λ l. absurd (omega arith);
  far = parent-far a.lcodes.now a.rcodes.now (searchable-paired start.requires.0 start.requires.1) a.y a.v _ _
      c.before.source_for-i.ensures.source c.source_for-j.ensures.source;
}

pub parent_spec : {M : Type 1} → statement M
parent_spec = tie.close (tie.spec
    (λ c. record { near = λ l. refl; far = λ x a s e. absurd (omega arith) }) (λ c. search rules) (λ c. let h = (own (search)).some in omega arith) (λ c κs. search rules)
    (λ c. let h = (own (search)).some in omega arith) (λ c κs. search rules) mul-result add-result returns-2)
