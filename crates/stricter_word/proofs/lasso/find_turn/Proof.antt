-- `find_turn` meets its contract.
use mathlib.Core.Path.{◌≡◌, ◌∙◌}
use mathlib.Core.Bool.{false}
use Prim.Native.Nat.{◌*◌}
use native.Mathlib.Omega.{arith}
use lib.ListN.{length}
use Rattle.graph_walks.proofs.Sums.{has-place}
use Rattle.stricter_laws.specs.Pairs.{PairStep}
use Rattle.stricter_laws.specs.Tests.{accepts_in}
use Rattle.stricter_laws.specs.Forest.{met}
use Rattle.stricter_laws.proofs.Reach.{same_start, same_then}
use Rattle.stricter_word.proofs.Turns.{searchable-fits, met-place, sound-same, Candidate, meets-p, meets-q, candidate-first, turn-same, turn-found, turn-next, turn-fewer}
use Rattle.stricter_word.proofs.lasso.find_turn.Statement.{statement}
use Rattle.stricter_word.proofs.lasso.find_turn.Tie as tie

abbrev invariant-loop : tie.invariant-loop-marks
invariant-loop lcodes left rcodes right start marks₀ u₀ marks u = Candidate (PairStep (length rcodes) left right) (accepts_in lcodes rcodes false) start marks₀ marks u

abbrev decreases-loop : tie.decreases-loop-marks
decreases-loop lcodes left rcodes right start marks₀ u₀ marks u = met marks

abbrev Start : Type 0
Start = tie.Start invariant-loop decreases-loop

abbrev After-explore : Type 0
After-explore = tie.After-explore invariant-loop decreases-loop

abbrev At-loop : Type 0
At-loop = tie.At-loop-marks invariant-loop decreases-loop

abbrev After-explore2 : Type 0
After-explore2 = tie.After-explore-in-loop-marks invariant-loop decreases-loop

abbrev After-lowest2 : Type 0
After-lowest2 = tie.After-lowest-v invariant-loop decreases-loop

abbrev After-explore3 : Type 0
After-explore3 = tie.After-explore-in-loop-marks-2 invariant-loop decreases-loop

abbrev start-of-at-explore-arg2 : tie.After-explore-arg-in-loop-marks-1 invariant-loop decreases-loop → Start
start-of-at-explore-arg2 c = search

abbrev at-explore2-of-at-explore3 : After-explore3 → After-explore2
at-explore2-of-at-explore3 c = search

abbrev at-explore-of-at-slice-known3 : tie.After-slice_known-in-loop-marks-1 invariant-loop decreases-loop → After-explore
at-explore-of-at-slice-known3 c = search

explore-requires : tie.Need-explore-requires invariant-loop decreases-loop
explore-requires c κs = let start : Start = search in let a = start.args in let p = start.requires in
    (searchable-fits a.marks.now p.0 p.1 p.2, has-place a.marks.now a.start p.3)

lowest-requires : tie.Need-lowest-u-requires invariant-loop decreases-loop
lowest-requires c κs = let start : Start = search in let a = start.args in let p = start.requires in let at-explore : After-explore = search in
    let e = at-explore.explore.ensures in (e.same.long ∙ p.2, meets-p (same_start a.marks.now) p.4 p.3 e)

loop-holds : tie.Need-loop-marks-init invariant-loop decreases-loop
loop-holds c =
    let at-explore : After-explore = search in candidate-first c.lowest-u.result at-explore.explore.ensures c.lowest-u.ensures.0 c.lowest-u.ensures.1

abbrev start-of-at-loop : At-loop → Start
start-of-at-loop c = search

-- there are as many marks as pairs
long : (c : At-loop) → length c.loop-marks.marks ≡ length (start-of-at-loop c).args.lcodes.now * length (start-of-at-loop c).args.rcodes.now
long c = let at-explore : After-explore = search in c.loop-marks.invariant.same.long ∙ at-explore.explore.ensures.same.long ∙ (start-of-at-loop c).requires.2

explore-requires-2 : tie.Need-explore-requires-in-loop-marks invariant-loop decreases-loop
explore-requires-2 c κs = let start : Start = search in let p = start.requires in let l = c.before.loop-marks in
    (searchable-fits l.marks p.0 p.1 (long c.before), met-place l.marks l.u l.invariant.here)

lowest-requires-2 : tie.Need-lowest-v-requires invariant-loop decreases-loop
lowest-requires-2 c κs = let start : Start = search in let p = start.requires in let at-loop : At-loop = search in let l = at-loop.loop-marks in
    let at-explore2 : After-explore2 = search in let e = at-explore2.explore-in-loop-marks.ensures in let at-explore : After-explore = search in (
      e.same.long ∙ long (search),
      meets-q l.invariant.same (sound-same at-explore.explore.ensures.same p.4)
          (let h = l.invariant.here in omega arith) e,
    )

explore-requires-3 : tie.Need-explore-requires-in-loop-marks-2 invariant-loop decreases-loop
explore-requires-3 c κs =
    let start : Start = search in let p = start.requires in let at-explore2 : After-explore2 = search in let e = at-explore2.explore-in-loop-marks.ensures in
    let marks = at-explore2.explore-in-loop-marks.new.marks in (
      searchable-fits _ p.0 p.1 (e.same.long ∙ long (search)),
      met-place marks c.before.lowest-v.result c.before.lowest-v.ensures.0,
    )

slice-read-if1 : tie.Need-bounds-marks-u invariant-loop decreases-loop
slice-read-if1 c = let at-loop : At-loop = search in let l = at-loop.loop-marks in let here = met-place l.marks l.u l.invariant.here in
    let at-explore2 : After-explore2 = search in let at-explore3 : After-explore3 = search in
    omega (arith, at-explore3.explore-in-loop-marks-2.ensures.same.long, at-explore2.explore-in-loop-marks.ensures.same.long)

same_length : tie.Need-shape_of-marks-then-marks-u-gt1 invariant-loop decreases-loop
same_length c = let at-explore2 : After-explore2 = search in let at-loop : At-loop = search in let at-explore : After-explore = search in
    let at-explore3 : After-explore3 = search in
    at-explore3.explore-in-loop-marks-2.ensures.same.long ∙ at-explore2.explore-in-loop-marks.ensures.same.long ∙ at-loop.loop-marks.invariant.same.long ∙ at-explore.explore.ensures.same.long

returns : tie.Need-returns-then-marks-u-gt1 invariant-loop decreases-loop
returns c = let at-loop : At-loop = search in let l = at-loop.loop-marks in let at-explore : After-explore = search in
    let first = at-explore.explore.ensures.same in let at-lowest2 : After-lowest2 = search in let v = at-lowest2.lowest-v.ensures in
    let at-explore2 : After-explore2 = search in let at-explore3 : After-explore3 = search in (
      same_then first (turn-same l.invariant at-explore2.explore-in-loop-marks.ensures v.0 at-explore3.explore-in-loop-marks-2.ensures),
      turn-found l.invariant at-explore2.explore-in-loop-marks.ensures v.0
          at-explore3.explore-in-loop-marks-2.ensures first v.1 (omega arith),
    )

lowest-requires-3 : tie.Need-lowest-u-requires-in-loop-marks invariant-loop decreases-loop
lowest-requires-3 c κs =
    let start : Start = start-of-at-explore-arg2 (search) in let p = start.requires in let at-loop : At-loop = search in let l = at-loop.loop-marks in
    let at-explore2 : After-explore2 = at-explore2-of-at-explore3 (search) in let e = at-explore2.explore-in-loop-marks.ensures in
    let at-explore3 : After-explore3 = search in let f = at-explore3.explore-in-loop-marks-2.ensures in let at-lowest2 : After-lowest2 = search in
    let at-explore : After-explore = at-explore-of-at-slice-known3 (search) in (
      f.same.long ∙ e.same.long ∙ long at-loop,
      meets-p (same_then l.invariant.same e.same) (sound-same at-explore.explore.ensures.same p.4)
          (omega (arith, at-lowest2.lowest-v.ensures.0)) f,
    )

loop-less : tie.Need-loop-marks-smaller invariant-loop decreases-loop
loop-less c = let at-lowest2 : After-lowest2 = search in let at-explore2 : After-explore2 = search in let at-loop : At-loop = search in
    let at-explore3 : After-explore3 = search in
    turn-fewer at-loop.loop-marks.invariant at-explore2.explore-in-loop-marks.ensures at-lowest2.lowest-v.ensures.0
    at-explore3.explore-in-loop-marks-2.ensures (λ h. omega arith)

loop-again : tie.Need-loop-marks-preserved invariant-loop decreases-loop
loop-again c = let at-lowest2 : After-lowest2 = search in let at-explore2 : After-explore2 = search in let at-loop : At-loop = search in
    let at-explore3 : After-explore3 = search in
    turn-next at-loop.loop-marks.invariant at-explore2.explore-in-loop-marks.ensures at-lowest2.lowest-v.ensures.0
    at-explore3.explore-in-loop-marks-2.ensures c.lowest-u-in-loop-marks.result c.lowest-u-in-loop-marks.ensures.0 c.lowest-u-in-loop-marks.ensures.1

pub find_turn_spec : {M : Type 1} → statement M
find_turn_spec = tie.close (tie.spec
    invariant-loop decreases-loop explore-requires lowest-requires loop-holds explore-requires-2 lowest-requires-2 explore-requires-3 slice-read-if1 same_length returns
    lowest-requires-3 loop-less loop-again)
