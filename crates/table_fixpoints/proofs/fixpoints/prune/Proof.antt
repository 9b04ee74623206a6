-- `table_fixpoints::fixpoints::prune` meets its contract: each turn takes a node out or leaves one place less that waits.
use mathlib.Core.Path.{◌≡◌}
use mathlib.Core.Logic.{◌⊎◌}
use Prim.Native.Nat.{ℕ, ◌+◌, ◌<◌}
use lib.ListN.{length, get_or}
use Rattle.sets.specs.Lists.{sum}
use Rattle.table_lent.specs.Lent.{in_both}
use Rattle.graph_walks.specs.Walks.{Pruned}
use Rattle.graph_walks.proofs.Rounds.{pruned-start, pruned-then}
use Rattle.table_fixpoints_spec.specs.Product.{NodeEdge}
use Rattle.table_fixpoints_spec.proofs.Places.{fits-long}
use Rattle.table_fixpoints_spec.proofs.Waiting.{left_after, before-low, prune-less}
use Rattle.table_fixpoints.proofs.fixpoints.prune.Statement.{statement}
use Rattle.table_fixpoints.proofs.fixpoints.prune.Tie as tie

abbrev invariant-loop : tie.invariant-loop-waiting
invariant-loop moves movebytes cycle n marks₀ waiting₀ p₀ marks waiting p =
    (p < length cycle) × Pruned (NodeEdge n cycle (in_both moves movebytes).numbers) marks₀ marks × ((x : ℕ) → (get_or marks x 0 ≡ 0) ⊎ (get_or marks x 0 ≡ 2))

abbrev decreases-loop : tie.decreases-loop-waiting
decreases-loop moves movebytes cycle n marks₀ waiting₀ p₀ marks waiting p = sum marks + waiting

prune-place-requires : tie.Need-prune_place-new-requires invariant-loop decreases-loop
prune-place-requires c κs =
    let at-loop : tie.At-loop-waiting invariant-loop decreases-loop = search in let v = at-loop.loop-waiting.invariant in let start : tie.Start invariant-loop decreases-loop = search in
    (fits-long v.1.long start.requires.0, v.2, rw c.before.place_before-p.ensures (before-low _ _ v.0))

loop-less : tie.Need-loop-waiting-smaller invariant-loop decreases-loop
loop-less c = let at-prune-place : tie.After-prune_place-new invariant-loop decreases-loop = search in let in-loop : tie.In-loop-waiting invariant-loop decreases-loop = search in
    prune-less at-prune-place.prune_place-new.ensures (rw c.waiting_after-waiting.ensures (left_after _ _ in-loop.loop-waiting-test.true))

loop-again : tie.Need-loop-waiting-preserved invariant-loop decreases-loop
loop-again c =
    let at-loop : tie.At-loop-waiting invariant-loop decreases-loop = search in let v = at-loop.loop-waiting.invariant in let at-prune-place : tie.After-prune_place-new invariant-loop decreases-loop = search in
    let e = at-prune-place.prune_place-new.ensures in let at-place-before : tie.After-place_before-p invariant-loop decreases-loop = search in
    (rw at-place-before.place_before-p.ensures (before-low _ _ v.0), pruned-then _ _ _ _ v.1 e.pruned, e.even)

pub prune_spec : {M : Type 1} → statement M
prune_spec = tie.close (tie.spec
    invariant-loop decreases-loop (λ c. let start : tie.Start invariant-loop decreases-loop = search in let pre = start.requires in (pre.0.repeats, pruned-start _ _, pre.1))
    (λ c κs. c.before.loop-waiting.invariant.0) prune-place-requires (λ c κs. let in-loop : tie.In-loop-waiting invariant-loop decreases-loop = search in in-loop.loop-waiting-test.true) loop-less loop-again
    (λ c. c.before.loop-waiting.invariant.1.long) (λ c. c.before.loop-waiting.invariant.1))
