-- `build_closure::rounds::close` meets its contract.
use Prim.Native.Nat.{ℕ, ◌-◌, ◌≤◌}
use mathlib.Core.Path.{◌≡◌, refl, ◌∙◌}
use native.Mathlib.Omega.{arith}
use lib.ListN.{length}
use Rattle.theory.specs.Rule.{Rule}
use Rattle.theory.specs.Automaton.{automaton}
use Rattle.build_spec.specs.Chains.{Lists, Chained}
use Rattle.build_spec.proofs.Growth.{all-kept}
use Rattle.build_spec.specs.Keys.{KeyEdge, First}
use Rattle.build_spec.specs.Reached.{AllReached}
use Rattle.build_spec.specs.Tables.{RuleTables}
use Rattle.build_closure.proofs.Closing.{Closing, gathered-full, close-next, close-end}
use Rattle.build_closure.proofs.rounds.close.Statement.{statement}
use Rattle.build_closure.proofs.rounds.close.Tie as tie

abbrev invariant-loop : tie.invariant-loop-from
invariant-loop keys₀ heads₀ last₀ first shape opens parts caps from₀ n₀ keys heads last from n =
    Chained keys heads last n × (from ≤ n) × (length keys ≡ length keys₀)
    × ((r : Rule) → RuleTables r opens parts shape → AllReached r parts shape keys₀ first → AllReached r parts shape keys n)
    × ((r : Rule) → RuleTables r opens parts shape → AllReached r parts shape keys₀ first → ((y : ℕ) → First r parts shape.components shape.holds y → Lists keys₀ first y)
    → Closing (First r parts shape.components shape.holds) (KeyEdge (automaton r) parts shape.components shape.s) keys heads last n from)

abbrev decreases-loop : tie.decreases-loop-from
decreases-loop keys₀ heads₀ last₀ first shape opens parts caps from₀ n₀ keys heads last from n = length keys₀ - from

abbrev At-loop : Type 0
At-loop = tie.At-loop-from invariant-loop decreases-loop

abbrev After-round : Type 0
After-round = tie.After-round-g invariant-loop decreases-loop

loop-holds : tie.Need-loop-from-init invariant-loop decreases-loop
loop-holds c = let p = c.before.requires in (
  p.1,
  omega arith,
  refl,
  λ r T R. R,
  λ r T R H. record { chained = p.1; place = omega arith; sound = R; holds = H; closed = λ q y l d. absurd (omega arith) },
)

round-requires : tie.Need-round-g-requires invariant-loop decreases-loop
round-requires c κs =
    let start : tie.Start invariant-loop decreases-loop = search in let p = start.requires in let at-loop : At-loop = search in let l = at-loop.loop-from in
    let in-loop : tie.In-loop-from invariant-loop decreases-loop = search in ((p.0.0, p.0.1, l.invariant.3 p.0.0 p.0.1 p.0.2), l.invariant.0, in-loop.loop-from-test.true, p.2)

same_length : tie.Need-shape_of-keys-then-g invariant-loop decreases-loop
same_length c = let at-round : After-round = search in let at-loop : At-loop = search in at-round.round-g.auto.keys ∙ at-loop.loop-from.invariant.2

returns : tie.Need-returns-then-g invariant-loop decreases-loop
returns c = let at-loop : At-loop = search in let v = at-loop.loop-from.invariant in let at-round : After-round = search in
    λ r T R H. gathered-full (at-round.round-g.ensures r T (v.3 r T R)) c.if-g.true (v.3 r T R) (λ y h. h) v.2

loop-less : tie.Need-loop-from-smaller invariant-loop decreases-loop
loop-less c =
    let start : tie.Start invariant-loop decreases-loop = search in let p = start.requires in let at-loop : At-loop = search in let l = at-loop.loop-from in
    let at-round : After-round = search in let G = at-round.round-g.ensures p.0.0 p.0.1 (l.invariant.3 p.0.0 p.0.1 p.0.2) in
    let in-loop : tie.In-loop-from invariant-loop decreases-loop = search in omega (arith, in-loop.loop-from-test.true, l.invariant.0.fits, l.invariant.2, G.more)

loop-again : tie.Need-loop-from-preserved invariant-loop decreases-loop
loop-again c =
    let start : tie.Start invariant-loop decreases-loop = search in let e = start.requires.0 in let at-loop : At-loop = search in let v = at-loop.loop-from.invariant in
    let at-round : After-round = search in let g = at-round.round-g in let G = g.ensures e.0 e.1 (v.3 e.0 e.1 e.2) in (
      G.kept,
      omega (arith, G.more),
      g.auto.keys ∙ v.2,
      (λ r T R. all-kept (g.ensures r T (v.3 r T R)) (v.3 r T R)),
      (λ r T R H. close-next (v.4 r T R H) (g.ensures r T (v.3 r T R)) c.if-g.false),
    )

returns-2 : tie.Need-returns invariant-loop decreases-loop
returns-2 c = let v = c.before.loop-from.invariant in λ r T R H. close-end (v.4 r T R H) v.2 (omega (arith, c.loop-from-test.false))

pub close_spec : {M : Type 1} → statement M
close_spec = tie.close (tie.spec invariant-loop decreases-loop loop-holds round-requires same_length returns loop-less loop-again (λ c. c.before.loop-from.invariant.2) returns-2)
