-- `build_closure::reach::reach` meets its contract.
use mathlib.Core.Path.{refl}
use native.Mathlib.Omega.{arith}
use borrow.Author.Rules.{rules}
use Rattle.theory.specs.Rule.{Rule}
use Rattle.build_spec.proofs.Chains.{chained-none}
use Rattle.build_spec.proofs.Growth.{all_in}
use Rattle.build_spec.specs.Reached.{begins, ReachedKey, AllReached}
use Rattle.build_spec.specs.Tables.{RuleTables}
use Rattle.build_spec.proofs.Starting.{few}
use Rattle.build_spec.proofs.Link.{reached-in, reached-out}
use Rattle.build_closure.proofs.Closing.{gathered-full}
use Rattle.build_closure.proofs.Listing.{gathered-as}
use Rattle.build_closure.proofs.reach.reach.Statement.{statement}
use Rattle.build_closure.proofs.reach.reach.Tie as tie

firsts-requires : tie.Need-firsts-g-requires
firsts-requires c κs = let start : tie.Start = search in let p = start.requires in let at-largest-ranks : tie.After-largest_ranks-caps = search in
    ((p.0.0, p.0.1.shaped), chained-none p.1 refl refl, at-largest-ranks.largest_ranks-caps.ensures)

returns : tie.Need-returns-then-g
returns c = let at-firsts : tie.After-firsts-g = search in
    λ r T. gathered-full (at-firsts.firsts-g.ensures r T.shaped) c.if-g.true (λ p l. absurd (omega arith)) (λ y f. reached-in T.shaped y (begins f)) refl

-- the first keys are reached
all : (c : tie.After-firsts-g) → let start : tie.Start = search in (r : Rule) → let a = start.args in
    RuleTables r a.opens.now a.parts.now a.shape → AllReached r a.parts.now a.shape c.firsts-g.new.keys c.firsts-g.result.m
all c r T = let start : tie.Start = search in let a = start.args in
    all_in (c.firsts-g.ensures r T.shaped) (ReachedKey r a.parts.now a.shape) (λ p l. absurd (omega arith)) (λ y f. begins f)

close-requires : tie.Need-close-requires
close-requires c κs =
    let start : tie.Start = search in let e = start.requires.0 in let at-firsts : tie.After-firsts-g = search in let at-largest-ranks : tie.After-largest_ranks-caps = search in
    ((e.0, e.1, all at-firsts e.0 e.1), (at-firsts.firsts-g.ensures e.0 e.1.shaped).kept, at-largest-ranks.largest_ranks-caps.ensures)

returns-2 : tie.Need-returns
returns-2 c = let at-firsts : tie.After-firsts-g = search in let at-close : tie.After-close = search in let else1 : tie.Else-g = search in
    λ r T. let G = at-firsts.firsts-g.ensures r T.shaped in gathered-as G.long (reached-in T.shaped) (reached-out T.shaped)
    (at-close.close.ensures r T (all at-firsts r T) (λ y f. G.whole else1.if-g.false y f))

pub reach_spec : {M : Type 1} → statement M
reach_spec = tie.close (tie.spec
    (λ c κs. let p = c.before.requires in few p.0.1.shaped) firsts-requires (λ c. search rules) returns close-requires (λ c. search rules) returns-2)
