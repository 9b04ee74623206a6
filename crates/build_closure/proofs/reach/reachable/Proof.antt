-- `build_closure::reach::reachable` meets its contract.
use mathlib.Core.Path.{◌∙◌}
use native.Mathlib.Omega.{arith}
use borrow.Author.Rules.{rules}
use Rattle.build_spec.specs.Keys.{start_of}
use Rattle.build_closure.proofs.Listing.{listed-full, listed-all}
use Rattle.build_closure.proofs.reach.reachable.Statement.{statement}
use Rattle.build_closure.proofs.reach.reachable.Tie as tie

returns : tie.Need-returns-then-g
returns c = let start : tie.Start = search in let at-reach : tie.After-reach-g = search in
    λ r T. listed-full T.shaped.passing (start_of r start.args.shape.holds) c.if-g.true (at-reach.reach-g.ensures r T)

to-codes-requires : tie.Need-to_codes-requires
to-codes-requires c κs = let start : tie.Start = search in let e = start.requires.0 in let at-reach : tie.After-reach-g = search in (at-reach.reach-g.ensures e.0 e.1).fits

sort-first-requires : tie.Need-sort_first-requires
sort-first-requires c κs =
    let start : tie.Start = search in let e = start.requires.0 in let at-reach : tie.After-reach-g = search in let at-to-codes : tie.After-to_codes = search in
    omega (arith, (at-reach.reach-g.ensures e.0 e.1).fits, at-to-codes.to_codes.auto.keys)

returns-2 : tie.Need-returns
returns-2 c =
    let at-to-codes : tie.After-to_codes = search in let t = at-to-codes.to_codes in let at-sort-first : tie.After-sort_first = search in let z = at-sort-first.sort_first in
    let else1 : tie.Else-g = search in let at-reach : tie.After-reach-g = search in let start : tie.Start = search in
    λ r T. listed-all T.shaped.passing (start_of r start.args.shape.holds) else1.if-g.false (at-reach.reach-g.ensures r T)
    t.ensures z.ensures (z.auto.xs ∙ t.auto.keys)

pub reachable_spec : {M : Type 1} → statement M
reachable_spec = tie.close (tie.spec (λ c κs. search rules) (λ c. search rules) returns to-codes-requires sort-first-requires (λ c. search rules) returns-2)
