-- `table_fixpoints::rounds::mark_until_stable` meets its contract: at places that do not wait nothing is left to mark.
use mathlib.Core.Path.{◌≡◌}
use Prim.Native.Nat.{◌*◌, ◌-◌, ◌+◌}
use native.Mathlib.Omega.{arith}
use lib.ListN.{length}
use Rattle.sets.specs.Lists.{sum}
use Rattle.table_lent.specs.Lent.{in_both}
use Rattle.table_fixpoints_spec.proofs.Places.{fits-long}
use Rattle.table_fixpoints_spec.proofs.Waiting.{Left, left_after, before-low, Around, around-start, around-next, around-end, around-less}
use Rattle.table_fixpoints.proofs.rounds.mark_until_stable.Statement.{statement}
use Rattle.table_fixpoints.proofs.rounds.mark_until_stable.Tie as tie

abbrev invariant-loop : tie.invariant-loop-waiting
invariant-loop moves movebytes cycle n marks₀ back₀ waiting₀ p₀ marks back waiting p = Around n cycle (in_both moves movebytes).numbers marks₀ marks p waiting

abbrev decreases-loop : tie.decreases-loop-waiting
decreases-loop moves movebytes cycle n marks₀ back₀ waiting₀ p₀ marks back waiting p = 4 * length marks₀ - sum marks + waiting

abbrev At-loop : Type 0
At-loop = tie.At-loop-waiting invariant-loop decreases-loop

abbrev After-mark-place : Type 0
After-mark-place = tie.After-mark_place-new invariant-loop decreases-loop

mark-place-requires : tie.Need-mark_place-new-requires invariant-loop decreases-loop
mark-place-requires c κs = let at-loop : At-loop = search in let v = at-loop.loop-waiting.invariant in let start : tie.Start invariant-loop decreases-loop = search in
    (fits-long v.marking.long start.requires.0, rw c.before.place_before-p.ensures (before-low _ _ v.inside))

-- how many places wait then
left : (c : tie.After-waiting_after-waiting invariant-loop decreases-loop) → let at-mark-place : After-mark-place = search in let at-loop : At-loop = search in
    Left at-mark-place.mark_place-new.result at-loop.loop-waiting.waiting c.waiting_after-waiting.result
left c = let in-loop : tie.In-loop-waiting invariant-loop decreases-loop = search in rw c.waiting_after-waiting.ensures (left_after _ _ in-loop.loop-waiting-test.true)

abbrev start_of : tie.After-waiting_after-waiting invariant-loop decreases-loop → tie.Start invariant-loop decreases-loop
start_of c = search

-- the marks then
loop-again : tie.Need-loop-waiting-preserved invariant-loop decreases-loop
loop-again c = let at-loop : At-loop = search in let l = at-loop.loop-waiting in let at-mark-place : After-mark-place = search in
    let m = at-mark-place.mark_place-new.ensures in let at-place-before : tie.After-place_before-p invariant-loop decreases-loop = search in
    around-next l.back (fits-long l.invariant.marking.long (start_of c).requires.0) l.invariant
    at-place-before.place_before-p.ensures m.0 m.1 (left c)

loop-less : tie.Need-loop-waiting-smaller invariant-loop decreases-loop
loop-less c = let at-loop : At-loop = search in let l = at-loop.loop-waiting in let at-mark-place : After-mark-place = search in
    let m = at-mark-place.mark_place-new.ensures in around-less l.marks l.back (start_of c).requires.1 (loop-again c) m.0 m.1 (left c)

returns : tie.Need-returns invariant-loop decreases-loop
returns c = let l = c.before.loop-waiting in let none : l.waiting ≡ 0 = omega arith in around-end (rw none at l.invariant)

pub mark_until_stable_spec : {M : Type 1} → statement M
mark_until_stable_spec = tie.close (tie.spec
    invariant-loop decreases-loop (λ c. let start : tie.Start invariant-loop decreases-loop = search in around-start start.requires.0.repeats) (λ c κs. c.before.loop-waiting.invariant.inside)
    mark-place-requires (λ c κs. let in-loop : tie.In-loop-waiting invariant-loop decreases-loop = search in in-loop.loop-waiting-test.true) loop-less loop-again
    (λ c. c.before.loop-waiting.invariant.marking.long) returns)
