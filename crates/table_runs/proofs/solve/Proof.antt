-- `table_runs::solve` meets its contract: each round but the last takes an accepting node out, and after the last all that is left is sound.
use mathlib.Core.Path.{refl, ◌∙◌}
use mathlib.Core.Logic.{inl, inr}
use native.Mathlib.Omega.{arith}
use borrow.Author.Rules.{rules}
use lib.ListN.{length}
use Rattle.sets.specs.Lists.{sum}
use Rattle.table_lent.specs.Lent.{in_both}
use Rattle.table_fixpoints_spec.specs.Product.{NodeEdge}
use Rattle.table_fixpoints_spec.proofs.Places.{fits-long}
use Rattle.table_runs.proofs.Thinning.{thinned-low, thinned-sum, thinned-round, Going, going-long, going-begun, going-thinned}
use Rattle.table_runs.proofs.solve.Statement.{statement}
use Rattle.table_runs.proofs.solve.Tie as tie

abbrev invariant-loop : tie.invariant-loop-n
invariant-loop codes codebytes moves movebytes cycle marks₀ n round₀ marks round =
    Going (NodeEdge (length (in_both codes codebytes).numbers) cycle (in_both moves movebytes).numbers) (in_both codes codebytes).numbers marks₀ round marks

abbrev decreases-loop : tie.decreases-loop-n
decreases-loop codes codebytes moves movebytes cycle marks₀ n round₀ marks round = sum marks

abbrev At-loop : Type 0
At-loop = tie.At-loop-n invariant-loop decreases-loop

abbrev After-thin : Type 0
After-thin = tie.After-thin invariant-loop decreases-loop

abbrev After-solve-round : Type 0
After-solve-round = tie.After-solve_round invariant-loop decreases-loop

thin-requires : tie.Need-thin-requires invariant-loop decreases-loop
thin-requires c κs = let start : tie.Start invariant-loop decreases-loop = search in let pre = start.requires in let g = c.before.loop-n.invariant in (fits-long (going-long g) pre.0, going-begun pre.1 g)

solve-round-requires : tie.Need-solve_round-requires invariant-loop decreases-loop
solve-round-requires c κs =
    let at_count : tie.After-count-n invariant-loop decreases-loop = search in let n = at_count.count-n.ensures in let at-loop : At-loop = search in let g = at-loop.loop-n.invariant in
    let at-thin : After-thin = search in let t = going-thinned g at-thin.thin.ensures in let start : tie.Start invariant-loop decreases-loop = search in
    rw n (fits-long t.long start.requires.0, thinned-low t)

same_length : tie.Need-shape_of-marks-then-not-solve_round invariant-loop decreases-loop
same_length c = let at-loop : At-loop = search in let g = at-loop.loop-n.invariant in let at-thin : After-thin = search in
    let t = going-thinned g at-thin.thin.ensures in let at-solve-round : After-solve-round = search in at-solve-round.solve_round.ensures.long ∙ t.long

returns : tie.Need-returns-then-not-solve_round invariant-loop decreases-loop
returns c =
    let at_count : tie.After-count-n invariant-loop decreases-loop = search in let n = at_count.count-n.ensures in let at-loop : At-loop = search in let g = at-loop.loop-n.invariant in
    let at-thin : After-thin = search in let t = going-thinned g at-thin.thin.ensures in let at-solve-round : After-solve-round = search in
    let s = at-solve-round.solve_round in let none = c.if-not-solve_round.true in let r = rw (none, n) at s.ensures in
    record { thinned = thinned-round t r; sound = r.sound refl }

loop-less : tie.Need-loop-n-smaller invariant-loop decreases-loop
loop-less c =
    let start : tie.Start invariant-loop decreases-loop = search in let two = start.requires.1 in let at-loop : At-loop = search in let l = at-loop.loop-n in
    let at-solve-round : After-solve-round = search in let s = at-solve-round.solve_round in let some = c.before.if-not-solve_round.false in
    let at-thin : After-thin = search in let sum = thinned-sum (going-begun two l.invariant) at-thin.thin.ensures in omega (arith, s.ensures.less some, sum)

loop-again : tie.Need-loop-n-preserved invariant-loop decreases-loop
loop-again c =
    let at_count : tie.After-count-n invariant-loop decreases-loop = search in let n = at_count.count-n.ensures in let at-loop : At-loop = search in let g = at-loop.loop-n.invariant in
    let at-thin : After-thin = search in let t = going-thinned g at-thin.thin.ensures in let at-solve-round : After-solve-round = search in
    let r = at-solve-round.solve_round.ensures in inr (thinned-round t (rw n at r))

pub solve_spec : {M : Type 1} → statement M
solve_spec = tie.close (tie.spec
    invariant-loop decreases-loop (λ c κs. search rules) (λ c. inl (refl, refl)) thin-requires solve-round-requires same_length returns (λ c κs. search rules)
    loop-less loop-again)
