-- `build_transitions::transitions::transitions` meets its contract.
use mathlib.Core.Path.{refl}
use native.Mathlib.Omega.{arith}
use borrow.Author.Rules.{rules}
use Rattle.build_spec.proofs.Chains.{chained-none}
use Rattle.build_transitions.proofs.Filling.{restored, ready, reached, filled-full, filled}
use Rattle.build_transitions.proofs.transitions.transitions.Statement.{statement}
use Rattle.build_transitions.proofs.transitions.transitions.Tie as tie

chain-requires : tie.Need-chain-requires
chain-requires c κs = let start : tie.Start = search in let p = start.requires in let R = ready p.0.1 p.0.2 in (chained-none p.1 refl refl, R.ascending, R.low)

emit-requires : tie.Need-emit-g-requires
emit-requires c κs =
    let start : tie.Start = search in let p = start.requires in let e = p.0 in let at-chain : tie.After-chain = search in let k = at-chain.chain in
    ((e.0, e.1, reached e.1 (ready e.1 e.2) p.1 k.new.codes k.auto.codes k.ensures.1), rw k.auto.codes k.ensures.0)

returns : tie.Need-returns-then-g
returns c =
    let start : tie.Start = search in let p = start.requires in let at-chain : tie.After-chain = search in let k = at-chain.chain in let at-emit : tie.After-emit-g = search in
    let at-to-codes : tie.After-to_codes = search in (
      restored k.new.codes k.auto.codes (ready p.0.1 p.0.2).low k.ensures.1 at-to-codes.to_codes.ensures,
      λ r T e. let R = ready T e in
          filled-full T R p.1 k.new.codes k.auto.codes k.ensures.1 (at-emit.emit-g.ensures r T (reached T R p.1 k.new.codes k.auto.codes k.ensures.1)) c.if-g.true,
    )

sort-first-requires : tie.Need-sort_first-requires
sort-first-requires c κs =
    let start : tie.Start = search in let p = start.requires in let e = p.0 in let at-chain : tie.After-chain = search in let k = at-chain.chain in let at-emit : tie.After-emit-g = search in
    omega (arith, (at-emit.emit-g.ensures e.0 e.1 (reached e.1 (ready e.1 e.2) p.1 k.new.codes k.auto.codes k.ensures.1)).kept.fits)

returns-2 : tie.Need-returns
returns-2 c =
    let start : tie.Start = search in let p = start.requires in let at-chain : tie.After-chain = search in let k = at-chain.chain in let at-sort-first : tie.After-sort_first = search in
    let o = at-sort-first.sort_first in let at-to-codes : tie.After-to_codes = search in let at-emit : tie.After-emit-g = search in let else1 : tie.Else-g = search in (
      restored k.new.codes k.auto.codes (ready p.0.1 p.0.2).low k.ensures.1 at-to-codes.to_codes.ensures,
      λ r T e. let R = ready T e in
          filled T R p.1 k.new.codes k.auto.codes k.ensures.1 (at-emit.emit-g.ensures r T (reached T R p.1 k.new.codes k.auto.codes k.ensures.1))
          else1.if-g.false o.ensures o.auto.xs,
    )

pub transitions_spec : {M : Type 1} → statement M
transitions_spec = tie.close (tie.spec
    chain-requires emit-requires (λ c κs. let at-chain : tie.After-chain = search in omega (arith, at-chain.chain.auto.codes)) (λ c. search rules) (λ c. search rules) returns
    sort-first-requires (λ c. search rules) (λ c. search rules) returns-2)
