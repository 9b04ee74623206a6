-- `build_visit::spans::visit_set` meets its contract: a walk over the span of the set.
use Prim.Native.Nat.{ℕ, ◌+◌, ◌-◌}
use mathlib.Core.Path.{◌≡◌, refl, ap, sym, ◌∙◌}
use mathlib.Core.Bool.{false}
use mathlib.Core.List.{List}
use native.Mathlib.Omega.{arith}
use lib.Bits.{bit_and}
use lib.ListN.{length}
use Rattle.theory.specs.Rule.{Rule}
use Rattle.theory.specs.Automaton.{automaton}
use Rattle.build_cores.specs.Vectors.{Within}
use Rattle.build_cores.proofs.Next.{within-next}
use Rattle.build_cores.proofs.Vectors.{within-zero, within-le, within-lt}
use Rattle.build_spec.specs.Growth.{Grown}
use Rattle.build_spec.proofs.Appended.{appended-none, appended-as}
use Rattle.build_spec.proofs.Growth.{Upto, all-kept, after_kept, upto-start, upto-full}
use Rattle.build_spec.specs.declared.Shape.{Shape}
use Rattle.build_spec.specs.Keys.{Leads, LeadsAt}
use Rattle.build_spec.specs.Reached.{ReachedKey, AllReached}
use Rattle.build_spec.specs.Tables.{RuleTables}
use Rattle.build_spec.proofs.Sets.{open-and, nothing-fresh}
use Rattle.build_spec.proofs.Walk.{walk-less, walk-next, walk_end}
use Rattle.build_visit.proofs.spans.visit_set.Statement.{statement}
use Rattle.build_visit.proofs.spans.visit_set.Tie as tie

-- what step d of the span adds
abbrev Step : Rule → List ℕ → Shape → ℕ → ℕ → List ℕ → ℕ → ℕ → ℕ → ℕ → Type 0
Step r parts shape from n keys base caps d y = Within 8 d caps × LeadsAt (automaton r) parts shape.components shape.s from n keys (base + d) y

abbrev invariant-loop : tie.invariant-loop-g
invariant-loop keys₀ heads₀ last₀ n from x all shape opens parts g₀ base caps d₀ keys heads last g d =
    Within 8 d caps × (g.full ≡ false) × ((r : Rule) → RuleTables r opens parts shape → AllReached r parts shape keys₀ n →
    Grown (Upto (Step r parts shape from n keys₀ base caps) d) (ReachedKey r parts shape) keys₀ n keys heads last g.m g.full)

abbrev decreases-loop : tie.decreases-loop-g
decreases-loop keys₀ heads₀ last₀ n from x all shape opens parts g₀ base caps d₀ keys heads last g d = caps - d

abbrev Start : Type 0
Start = tie.Start invariant-loop decreases-loop

abbrev At-loop : Type 0
At-loop = tie.At-loop-g invariant-loop decreases-loop

abbrev After-visit : Type 0
After-visit = tie.After-visit-g invariant-loop decreases-loop

returns : tie.Need-returns-then-x-all invariant-loop decreases-loop
returns c = let start : Start = search in let p = start.requires in
    λ r T R. appended-none p.1 (λ y h. absurd (c.if-x-all.true (ap (bit_and start.args.x) p.3 ∙ rw h.1 at (open-and T.shaped h.0 h.2.0.within))))

is-fresh-requires : tie.Need-is_fresh-requires invariant-loop decreases-loop
is-fresh-requires c κs = let start : Start = search in let e = start.requires.0 in omega (arith, e.1.shaped.letters_are, e.1.table.few_letters)

returns-2 : tie.Need-returns-then-not-is_fresh invariant-loop decreases-loop
returns-2 c = let start : Start = search in let a = start.args in let p = start.requires in
    λ r T R. appended-none p.1 (λ y h. absurd (nothing-fresh T a.from a.x p.1 (c.before.is_fresh.ensures (c.if-not-is_fresh.true)) h.0 h.1 y h.2))

span-of-requires : tie.Need-span_of-span-requires invariant-loop decreases-loop
span-of-requires c κs = let start : Start = search in let p = start.requires in let else1 : tie.Else-x-all invariant-loop decreases-loop = search in
    ((p.0.0, p.0.1.shaped), sym (ap (bit_and start.args.x) p.3) ∙ else1.if-x-all.false)

loop-holds : tie.Need-loop-g-init invariant-loop decreases-loop
loop-holds c = let s = c.span_of-span in let start : Start = search in (within-zero s.result.caps s.ensures.low, refl, λ r T R. upto-start start.requires.1)

add-visit : tie.Need-overflow_add-base invariant-loop decreases-loop
add-visit c = let at-loop : At-loop = search in let l = at-loop.loop-g in let at-span-of : tie.After-span_of-span invariant-loop decreases-loop = search in
    omega (arith, within-lt 8 _ _ (at-span-of.span_of-span.ensures.inside l.d l.invariant.0))

visit-requires : tie.Need-visit-g-requires invariant-loop decreases-loop
visit-requires c κs =
    let start : Start = search in let p = start.requires in let e = p.0 in let at-loop : At-loop = search in let l = at-loop.loop-g in
    let i = l.invariant.2 e.0 e.1 e.2 in let at-span-of : tie.After-span_of-span invariant-loop decreases-loop = search in
    ((e.0, e.1, all-kept i e.2), i.kept, omega (arith, p.2, i.more), at-span-of.span_of-span.ensures.inside l.d l.invariant.0)

-- the slice keeps its length
long-at : (c : At-loop) → let start : Start = search in length c.loop-g.keys ≡ length start.args.keys.now
long-at c = let start : Start = search in let e = start.requires.0 in (c.loop-g.invariant.2 e.0 e.1 e.2).long

returns-3 : tie.Need-returns-then-g invariant-loop decreases-loop
returns-3 c = let at-loop : At-loop = search in let v = at-loop.loop-g.invariant in let at-visit : After-visit = search in
    λ r T R. let i = v.2 r T R in upto-full i v.1 (at-visit.visit-g.ensures r T (all-kept i R)) c.if-g.true

returns-4 : tie.Need-returns-then-d-caps invariant-loop decreases-loop
returns-4 c = let start : Start = search in let a = start.args in let at-loop : At-loop = search in let l = at-loop.loop-g in
    let at-span-of : tie.After-span_of-span invariant-loop decreases-loop = search in let s = at-span-of.span_of-span in let at-visit : After-visit = search in
    λ r T R. let i = l.invariant.2 r T R in
    appended-as (walk_end s.result.caps (λ v y h. h.0) l.invariant.0 i l.invariant.1 (at-visit.visit-g.ensures r T (all-kept i R))
    (λ y h. (h.1.0, after_kept i (Leads (automaton r) a.shape.s (s.result.base + l.d)) h.1.1)) c.if-d-caps.true)
    (λ t y h. let k = s.ensures.covers h.0 h.2.0 h.1 in (k.0, (k.1, rw k.2 at h.2))) (λ y h. h)

next-ranks-requires : tie.Need-next_ranks-d-requires invariant-loop decreases-loop
next-ranks-requires c κs = let at-loop : At-loop = search in let l = at-loop.loop-g in let s = at-loop.before.span_of-span in
    (s.ensures.low, omega (arith, within-le 8 l.d s.result.caps l.invariant.0, s.ensures.low), l.invariant.0, c.if-d-caps.false)

loop-less : tie.Need-loop-g-smaller invariant-loop decreases-loop
loop-less c = let at-loop : At-loop = search in let l = at-loop.loop-g in
    rw c.next_ranks-d.ensures (walk-less at-loop.before.span_of-span.result.caps l.d l.invariant.0 c.before.if-d-caps.false)

loop-again : tie.Need-loop-g-preserved invariant-loop decreases-loop
loop-again c = let start : Start = search in let a = start.args in let at-loop : At-loop = search in let l = at-loop.loop-g in
    let s = at-loop.before.span_of-span.result in let else3 : tie.Else-g invariant-loop decreases-loop = search in let at-visit : After-visit = search in rw c.next_ranks-d.ensures (
      within-next 8 l.d s.caps l.invariant.0 c.before.if-d-caps.false,
      else3.if-g.false,
      λ r T R. let i = l.invariant.2 r T R in
          walk-next s.caps (λ v y h. h.0) l.invariant.0 i l.invariant.1 (at-visit.visit-g.ensures r T (all-kept i R))
          (λ y h. (h.1.0, after_kept i (Leads (automaton r) a.shape.s (s.base + l.d)) h.1.1)),
    )

pub visit_set_spec : {M : Type 1} → statement M
visit_set_spec = tie.close (tie.spec
    invariant-loop decreases-loop returns is-fresh-requires returns-2 span-of-requires loop-holds add-visit visit-requires
    (λ c. let at-visit : After-visit = search in at-visit.visit-g.auto.keys ∙ long-at (search)) returns-3
    (λ c. let at-visit : After-visit = search in at-visit.visit-g.auto.keys ∙ long-at (search)) returns-4
    next-ranks-requires loop-less loop-again)
