-- `exhaust` meets its contract: each pass but the last tries a pair.
use mathlib.Core.Path.{sym, ◌∙◌}
use Prim.Native.Nat.{◌*◌, ◌-◌}
use native.Mathlib.Omega.{arith}
use lib.ListN.{length}
use Rattle.sets.specs.Lists.{sum}
use Rattle.stricter_laws.specs.Pairs.{PairStep}
use Rattle.stricter_laws.proofs.Rows.{fits-same}
use Rattle.stricter_laws.specs.Forest.{kind_in}
use Rattle.stricter_laws.proofs.Passes.{Passing, passing-start, passing-next, exhausted, sum-bytes}
use Rattle.stricter_word.proofs.explore.exhaust.Statement.{statement}
use Rattle.stricter_word.proofs.explore.exhaust.Tie as tie

abbrev invariant-loop : tie.invariant-loop
invariant-loop lcodes left rcodes right marks₀ marks = Passing (PairStep (length rcodes) left right) (kind_in lcodes rcodes) marks₀ marks

abbrev decreases-loop : tie.decreases-loop
decreases-loop lcodes left rcodes right marks₀ marks = 256 * length marks₀ - sum marks

abbrev At-loop : Type 0
At-loop = tie.At-loop invariant-loop decreases-loop

abbrev After-visit-all : Type 0
After-visit-all = tie.After-visit_all invariant-loop decreases-loop

loop-holds : tie.Need-loop-init invariant-loop decreases-loop
loop-holds c = let start : tie.Start invariant-loop decreases-loop = search in passing-start start.args.marks.now

visit-all-requires : tie.Need-visit_all-requires invariant-loop decreases-loop
visit-all-requires c κs = let start : tie.Start invariant-loop decreases-loop = search in fits-same c.before.loop.marks c.before.loop.invariant.long start.requires

loop-less : tie.Need-loop-smaller invariant-loop decreases-loop
loop-less c = let at-loop : At-loop = search in let at-visit-all : After-visit-all = search in let grown = at-visit-all.visit_all.ensures.grown c.loop-test.true in
    let marks = at-visit-all.visit_all.new.marks in let most = sum-bytes marks (λ i. omega (arith, c.before.slice_known-in-loop-1.given i)) in
    omega (arith, at-visit-all.visit_all.ensures.long, at-loop.loop.invariant.long)

loop-again : tie.Need-loop-preserved invariant-loop decreases-loop
loop-again c = let at-loop : At-loop = search in let at-visit-all : After-visit-all = search in
    passing-next at-loop.loop.invariant at-visit-all.visit_all.ensures

same_length : tie.Need-shape_of-marks invariant-loop decreases-loop
same_length c =
    let at-visit-all : After-visit-all = search in let at-loop : At-loop = search in at-visit-all.visit_all.ensures.long ∙ at-loop.loop.invariant.long

returns : tie.Need-returns invariant-loop decreases-loop
returns c = let at-loop : At-loop = search in let at-visit-all : After-visit-all = search in
    exhausted at-loop.loop.invariant (rw (sym at-loop.loop.invariant.long, sym c.loop-test.false) at-visit-all.visit_all.ensures)

pub exhaust_spec : {M : Type 1} → statement M
exhaust_spec = tie.close (tie.spec invariant-loop decreases-loop loop-holds visit-all-requires loop-less loop-again same_length returns)
