-- `visit_row` meets its contract.
use mathlib.Core.Path.{◌≡◌, ◌∙◌}
use mathlib.Core.Bool.{Bool, true, false}
use Prim.Native.Nat.{◌+◌, ◌-◌, ◌*◌, ◌≤◌, ◌<◌}
use native.Mathlib.Omega.{arith}
use lib.ListN.{length}
use Rattle.stricter_laws.specs.Pairs.{PairStep}
use Rattle.stricter_laws.proofs.Rows.{fits-same}
use Rattle.stricter_laws.specs.Forest.{kind_in, Waits, Passed}
use Rattle.stricter_laws.proofs.Pairs.{row-end}
use Rattle.stricter_laws.proofs.Passes.{passed_start, passed-turn}
use Rattle.stricter_word.proofs.explore.visit_row.Statement.{statement}
use Rattle.stricter_word.proofs.explore.visit_row.Tie as tie

abbrev invariant-loop : tie.invariant-loop-i
invariant-loop lcodes left cuts rcodes right i j marks₀ row end k₀ marks k = (k < length rcodes) × Waits marks (i * length rcodes + k)
    × ((b : Bool) × Passed (PairStep (length rcodes) left right) (kind_in lcodes rcodes) (i * length rcodes + j) (i * length rcodes + k) marks₀ marks b)

abbrev decreases-loop : tie.decreases-loop-i
decreases-loop lcodes left cuts rcodes right i j marks₀ row end k₀ marks k = length rcodes - k

abbrev Start : Type 0
Start = tie.Start invariant-loop decreases-loop

abbrev At-loop : Type 0
At-loop = tie.At-loop-i invariant-loop decreases-loop

abbrev After-visit : Type 0
After-visit = tie.After-visit invariant-loop decreases-loop

abbrev at-loop-of : After-visit → At-loop
at-loop-of c = search

-- the row ends within the marks
ends : (c : Start) → c.args.i * length c.args.rcodes.now + length c.args.rcodes.now ≤ length c.args.marks.now
ends c = row-end c.args.i c.requires.0 c.requires.2 (omega (arith, c.requires.3))

loop-holds : tie.Need-loop-i-init invariant-loop decreases-loop
loop-holds c =
    let start : Start = search in let a = start.args in let p = start.requires in (p.3, p.4, (false, passed_start (a.i * length a.rcodes.now + a.j) a.marks.now))

visit-requires : tie.Need-visit-requires invariant-loop decreases-loop
visit-requires c κs =
    let start : Start = search in let p = start.requires in let l = c.before.loop-i in (fits-same l.marks l.invariant.2.1.long p.0, p.1, p.2, l.invariant.0, l.invariant.1)

add-next-waiting : tie.Need-overflow_add-row invariant-loop decreases-loop
add-next-waiting c = omega (arith, ends (search), (at-loop-of (search)).loop-i.invariant.0)

add-next-waiting-2 : tie.Need-overflow_add-row-in-loop-i invariant-loop decreases-loop
add-next-waiting-2 c = omega (arith, ends (search), (at-loop-of (search)).loop-i.invariant.0)

next-waiting-requires : tie.Need-next_waiting-x-requires invariant-loop decreases-loop
next-waiting-requires c κs =
    let h = ends (search) in let at-loop : At-loop = search in let l = at-loop.loop-i in let at-visit : After-visit = search in
    (omega (arith, l.invariant.0), omega (arith, at-visit.visit.ensures.long, l.invariant.2.1.long))

same_length : tie.Need-shape_of-marks-then-x-end invariant-loop decreases-loop
same_length c =
    let at-visit : After-visit = search in let at-loop : At-loop = search in at-visit.visit.ensures.long ∙ at-loop.loop-i.invariant.2.1.long

loop-less : tie.Need-loop-i-smaller invariant-loop decreases-loop
loop-less c = let at-loop : At-loop = search in omega (arith, c.before.next_waiting-x.ensures.ordered, at-loop.loop-i.invariant.0)

loop-again : tie.Need-loop-i-preserved invariant-loop decreases-loop
loop-again c =
    let at-loop : At-loop = search in let at-visit : After-visit = search in let turn = passed-turn _ at-loop.loop-i.invariant.2.1 at-visit.visit.ensures c.before.next_waiting-x.ensures.none in
    let start : Start = search in let a = start.args in let n = c.before.next_waiting-x.ensures in let w = n.found (omega (arith, n.within, c.if-x-end.false)) in
    let row = a.i * length a.rcodes.now in let e : row + (c.before.next_waiting-x.result - row) ≡ c.before.next_waiting-x.result = omega (arith, n.ordered) in
    (omega (arith, n.within, n.ordered, c.if-x-end.false), rw e (record { big = w.0; small = w.1 }), (true, rw e turn))

returns : tie.Need-returns-then-x-end invariant-loop decreases-loop
returns c = let at-loop : At-loop = search in let at-visit : After-visit = search in
    rw c.if-x-end.true at (passed-turn _ at-loop.loop-i.invariant.2.1 at-visit.visit.ensures c.before.next_waiting-x.ensures.none)

pub visit_row_spec : {M : Type 1} → statement M
visit_row_spec = tie.close (tie.spec
    invariant-loop decreases-loop (λ c. let h = ends (search) in omega arith) (λ c. let h = ends (search) in omega arith) loop-holds visit-requires add-next-waiting add-next-waiting-2
    next-waiting-requires same_length returns (λ c. omega (arith, c.before.next_waiting-x.ensures.ordered)) loop-less loop-again)
