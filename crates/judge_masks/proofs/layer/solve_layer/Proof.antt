-- `judge_masks::layer::solve_layer` meets its contract: each round but the last opens a state, and after it nothing is left to open.
use Prim.Native.Nat.{ℕ, ◌*◌, ◌-◌, ◌<◌}
use mathlib.Core.Path.{◌≡◌, refl, sym, ◌∙◌}
use mathlib.Core.List.{List}
use native.Mathlib.Omega.{arith}
use lib.ListN.{length}
use Rattle.theory.specs.Rule.{Rule}
use Rattle.rule_entries.specs.Entries.{rule_of}
use Rattle.judge_place.specs.Rounds.{extent}
use Rattle.judge_place.proofs.Rounds.{Rounds, rounds-on, extent-le, part-done}
use Rattle.judge_masks.proofs.layer.solve_layer.Statement.{statement}
use Rattle.judge_masks.proofs.layer.solve_layer.Tie as tie

abbrev invariant-loop : tie.invariant-loop-h
invariant-loop h counts starts clauses cycle layer masks₀ masks = Rounds (rule_of h counts clauses) cycle layer masks₀ masks

abbrev decreases-loop : tie.decreases-loop-h
decreases-loop h counts starts clauses cycle layer masks₀ masks = 255 * length masks₀ - extent (rule_of h counts clauses) cycle layer masks

abbrev At-loop : Type 0
At-loop = tie.At-loop-h invariant-loop decreases-loop

abbrev After-round : Type 0
After-round = tie.After-round invariant-loop decreases-loop

round-requires : tie.Need-round-requires invariant-loop decreases-loop
round-requires c κs = let start : tie.Start invariant-loop decreases-loop = search in let z = start.requires in (z.0, z.1, c.before.loop-h.invariant.long ∙ z.2)

-- a round that opens a state leaves less to open
less : (r : Rule) (cycle : List ℕ) (layer : ℕ) (old new : List ℕ) (n : ℕ) → length new ≡ n → extent r cycle layer old < extent r cycle layer new
    → 255 * n - extent r cycle layer new < 255 * n - extent r cycle layer old
less r cycle layer old new n long grown = omega (arith, extent-le r cycle layer new)

loop-less : tie.Need-loop-h-smaller invariant-loop decreases-loop
loop-less c =
    let at-round : After-round = search in let at-loop : At-loop = search in
    less _ _ _ _ _ _ (at-round.round.ensures.long ∙ at-loop.loop-h.invariant.long) (at-round.round.ensures.grown c.loop-h-test.true)

loop-again : tie.Need-loop-h-preserved invariant-loop decreases-loop
loop-again c =
    let at-loop : At-loop = search in let at-round : After-round = search in rounds-on _ _ _ _ _ _ _ at-loop.loop-h.invariant at-round.round.ensures

same_length : tie.Need-shape_of-masks invariant-loop decreases-loop
same_length c = let at-round : After-round = search in let at-loop : At-loop = search in at-round.round.ensures.long ∙ at-loop.loop-h.invariant.long

returns : tie.Need-returns invariant-loop decreases-loop
returns c =
    let start : tie.Start invariant-loop decreases-loop = search in let a = start.args in let z = start.requires in let r = rule_of a.h a.counts.now a.clauses.now in
    let at-round : After-round = search in let p = at-round.round.ensures in
    let at-loop : At-loop = search in let s = rounds-on r a.cycle.now a.layer _ _ _ _ at-loop.loop-h.invariant p in
    λ k e q. part-done r z.0.passing a.cycle.now z.0.word.repeats k _ (s.part k e q) (λ j l. rw (sym e) (p.still c.loop-h-test.false j l))

pub solve_layer_spec : {M : Type 1} → statement M
solve_layer_spec = tie.close (tie.spec
    invariant-loop decreases-loop (λ c. record { long = refl; part = λ h e k. k }) round-requires loop-less loop-again same_length returns)
