-- `build_closure::rounds::round` meets its contract, set by set.
use Prim.Native.Nat.{ℕ, ◌+◌, ◌-◌, ◌≤◌, ◌<◌}
use mathlib.Core.Path.{◌≡◌, refl, ap, ◌∙◌}
use mathlib.Core.Bool.{false}
use mathlib.Core.List.{List}
use native.Mathlib.Omega.{arith}
use lib.Dec.{ltb}
use lib.ListN.{length, get_or}
use borrow.Author.Rules.{rules}
use Rattle.sets.proofs.Masks.{mask_lt}
use Rattle.theory.specs.Rule.{Rule}
use Rattle.theory.specs.Automaton.{automaton}
use Rattle.build_cores.specs.Vectors.{rank_at}
use Rattle.build_cores.specs.Used.{caps_of}
use Rattle.build_spec.specs.Growth.{Grown}
use Rattle.build_spec.proofs.Appended.{appended-as}
use Rattle.build_spec.proofs.Growth.{Upto, all-kept, after_kept, upto-start, upto_next, upto-full}
use Rattle.build_spec.specs.declared.Shape.{Shape}
use Rattle.build_spec.specs.Keys.{Leads, LeadsAt}
use Rattle.build_spec.specs.Reached.{ReachedKey, AllReached}
use Rattle.build_spec.specs.Sets.{open_in}
use Rattle.build_spec.specs.Tables.{RuleTables}
use Rattle.build_spec.proofs.Letters.{edges-out}
use Rattle.build_spec.proofs.Sets.{open-within}
use Rattle.build_spec.proofs.Starting.{open-lowest}
use Rattle.build_closure.proofs.rounds.round.Statement.{statement}
use Rattle.build_closure.proofs.rounds.round.Tie as tie

-- what the cores with the open states x add
abbrev OfSet : Rule → List ℕ → Shape → ℕ → ℕ → List ℕ → ℕ → ℕ → Type 0
OfSet r parts shape from n keys x y = (v : ℕ) × (open_in v ≡ x) × LeadsAt (automaton r) parts shape.components shape.s from n keys v y

abbrev invariant-loop : tie.invariant-loop-g
invariant-loop keys₀ heads₀ last₀ n from shape opens parts caps all g₀ x₀ keys heads last g x =
    (x ≤ all) × (g.full ≡ false) × ((r : Rule) → RuleTables r opens parts shape → AllReached r parts shape keys₀ n →
    Grown (Upto (OfSet r parts shape from n keys₀) x) (ReachedKey r parts shape) keys₀ n keys heads last g.m g.full)

abbrev decreases-loop : tie.decreases-loop-g
decreases-loop keys₀ heads₀ last₀ n from shape opens parts caps all g₀ x₀ keys heads last g x = all - x

abbrev Start : Type 0
Start = tie.Start invariant-loop decreases-loop

abbrev At-loop : Type 0
At-loop = tie.At-loop-g invariant-loop decreases-loop

abbrev After-visit-set : Type 0
After-visit-set = tie.After-visit_set-g invariant-loop decreases-loop

-- the states that can be open
all-is : (c : tie.After-lowest-low invariant-loop decreases-loop) → let start : Start = search in
    get_or c.lowest-low.result 15 0 ≡ open_in (caps_of start.args.parts.now start.args.shape.components)
all-is c = let start : Start = search in let p = start.requires in open-lowest start.args.caps c.lowest-low.result c.lowest-low.ensures ∙ ap open_in p.3

visit-set-requires : tie.Need-visit_set-g-requires invariant-loop decreases-loop
visit-set-requires c κs = let start : Start = search in let p = start.requires in let e = p.0 in let at-loop : At-loop = search in
    let i = at-loop.loop-g.invariant.2 e.0 e.1 e.2 in ((e.0, e.1, all-kept i e.2), i.kept, omega (arith, p.2, i.more), all-is (search))

-- the slice keeps its length
long-at : (c : At-loop) → let start : Start = search in length c.loop-g.keys ≡ length start.args.keys.now
long-at c = let start : Start = search in let e = start.requires.0 in (c.loop-g.invariant.2 e.0 e.1 e.2).long

returns : tie.Need-returns-then-g invariant-loop decreases-loop
returns c = let at-loop : At-loop = search in let v = at-loop.loop-g.invariant in let at-visit-set : After-visit-set = search in
    λ r T R. let i = v.2 r T R in upto-full i v.1 (at-visit-set.visit_set-g.ensures r T (all-kept i R)) c.if-g.true

returns-2 : tie.Need-returns-then-x-all invariant-loop decreases-loop
returns-2 c = let start : Start = search in let a = start.args in let at-loop : At-loop = search in let l = at-loop.loop-g in
    let at-visit-set : After-visit-set = search in λ r T R. let i = l.invariant.2 r T R in
    appended-as (upto_next i l.invariant.1 (at-visit-set.visit_set-g.ensures r T (all-kept i R))
    (λ y h. (h.0, h.1, (h.2.0, after_kept i (Leads (automaton r) a.shape.s h.0) h.2.1)))) (λ t y h.
    let e = edges-out (automaton r) a.parts.now a.shape.components a.shape.s a.from a.n a.keys.now y h in
    let few : open_in e.0 < l.x + 1 = omega (arith, open-within T.shaped e.0 e.1.0.within, all-is (search), c.if-x-all.true) in
    (open_in e.0, few, (e.0, refl, e.1))) (λ y h. h)

add-x : tie.Need-overflow_add-x invariant-loop decreases-loop
add-x c = let start : Start = search in let a = start.args in let at-loop : At-loop = search in
    omega (arith, at-loop.loop-g.invariant.0, c.if-x-all.false, all-is (search), mask_lt 8 (λ q. ltb 0 (rank_at (caps_of a.parts.now a.shape.components) q)))

loop-less : tie.Need-loop-g-smaller invariant-loop decreases-loop
loop-less c = let at-loop : At-loop = search in omega (arith, at-loop.loop-g.invariant.0, c.if-x-all.false)

loop-again : tie.Need-loop-g-preserved invariant-loop decreases-loop
loop-again c = let at-loop : At-loop = search in let l = at-loop.loop-g in let at-visit-set : After-visit-set = search in
    let start : Start = search in (
      omega (arith, l.invariant.0, c.if-x-all.false),
      c.before.if-g.false,
      λ r T R. let i = l.invariant.2 r T R in upto_next i l.invariant.1 (at-visit-set.visit_set-g.ensures r T (all-kept i R))
          (λ y h. (h.0, h.1, (h.2.0, after_kept i (Leads (automaton r) start.args.shape.s h.0) h.2.1))),
    )

pub round_spec : {M : Type 1} → statement M
round_spec = tie.close (tie.spec
    invariant-loop decreases-loop (λ c κs. search rules) (λ c. search rules) (λ c. let start : Start = search in (omega arith, refl, λ r T R. upto-start start.requires.1))
    visit-set-requires (λ c. let at-visit-set : After-visit-set = search in at-visit-set.visit_set-g.auto.keys ∙ long-at (search)) returns
    (λ c. let at-visit-set : After-visit-set = search in at-visit-set.visit_set-g.auto.keys ∙ long-at (search))
    returns-2 add-x loop-less loop-again)
