-- `build_closure::rounds::firsts` meets its contract.
use Prim.Native.Nat.{◌-◌, ◌^◌, ◌<◌}
use mathlib.Core.Path.{◌≡◌, refl, ◌∙◌}
use mathlib.Core.Bool.{false}
use native.Mathlib.Omega.{arith}
use lib.ListN.{length}
use Rattle.theory.specs.Rule.{Rule}
use Rattle.build_cores.specs.Vectors.{Within}
use Rattle.build_cores.proofs.Next.{within-next}
use Rattle.build_cores.proofs.Vectors.{within-zero, within-le}
use Rattle.build_spec.specs.Growth.{Grown}
use Rattle.build_spec.proofs.Appended.{appended-as}
use Rattle.build_spec.proofs.Growth.{Upto, upto-start, upto-full}
use Rattle.build_spec.specs.Keys.{StartsAt, First}
use Rattle.build_spec.specs.Tables.{Shaped}
use Rattle.build_spec.proofs.Starting.{caps-low}
use Rattle.build_spec.proofs.Walk.{walk-less, walk-next, walk_end}
use Rattle.build_closure.proofs.rounds.firsts.Statement.{statement}
use Rattle.build_closure.proofs.rounds.firsts.Tie as tie

abbrev invariant-loop : tie.invariant-loop-g
invariant-loop keys₀ heads₀ last₀ shape parts caps g₀ t₀ keys heads last g t =
    Within 8 t caps × (g.full ≡ false) × ((r : Rule) → Shaped r parts shape → Grown (Upto (StartsAt r parts shape.components shape.holds) t)
    (First r parts shape.components shape.holds) keys₀ 0 keys heads last g.m g.full)

abbrev decreases-loop : tie.decreases-loop-g
decreases-loop keys₀ heads₀ last₀ shape parts caps g₀ t₀ keys heads last g t = caps - t

abbrev Start : Type 0
Start = tie.Start invariant-loop decreases-loop

abbrev At-loop : Type 0
At-loop = tie.At-loop-g invariant-loop decreases-loop

abbrev After-visit-first : Type 0
After-visit-first = tie.After-visit_first-g invariant-loop decreases-loop

loop-holds : tie.Need-loop-g-init invariant-loop decreases-loop
loop-holds c = let p = c.before.requires in (within-zero c.before.args.caps (rw p.2 (caps-low p.0.1)), refl, λ r S. upto-start p.1)

visit-first-requires : tie.Need-visit_first-g-requires invariant-loop decreases-loop
visit-first-requires c κs = let start : Start = search in let p = start.requires in let at-loop : At-loop = search in let l = at-loop.loop-g in
    (p.0, (l.invariant.2 p.0.0 p.0.1).kept, rw p.2 at l.invariant.0)

-- the slice keeps its length
long-at : (c : At-loop) → let start : Start = search in length c.loop-g.keys ≡ length start.args.keys.now
long-at c = let start : Start = search in let e = start.requires.0 in (c.loop-g.invariant.2 e.0 e.1).long

returns : tie.Need-returns-then-g invariant-loop decreases-loop
returns c = let at-loop : At-loop = search in let l = at-loop.loop-g in let at-visit-first : After-visit-first = search in
    λ r S. upto-full (l.invariant.2 r S) l.invariant.1 (appended-as (at-visit-first.visit_first-g.ensures r S) (λ e y h. h) (λ y h. (l.t, h))) c.if-g.true

returns-2 : tie.Need-returns-then-t-caps invariant-loop decreases-loop
returns-2 c = let at-loop : At-loop = search in let l = at-loop.loop-g in let start : Start = search in let p = start.requires in
    let at-visit-first : After-visit-first = search in
    λ r S. walk_end start.args.caps (λ v y h. rw p.2 h.0.within) l.invariant.0 (l.invariant.2 r S) l.invariant.1
    (appended-as (at-visit-first.visit_first-g.ensures r S) (λ e y h. h) (λ y h. (l.t, h))) (λ y h. h) c.if-t-caps.true

next-ranks-requires : tie.Need-next_ranks-t-requires invariant-loop decreases-loop
next-ranks-requires c κs =
    let start : Start = search in let caps = start.args.caps in let p = start.requires in let at-loop : At-loop = search in let l = at-loop.loop-g in
    let low : caps < 2 ^ 32 = rw p.2 (caps-low p.0.1) in (low, omega (arith, within-le 8 l.t caps l.invariant.0), l.invariant.0, c.if-t-caps.false)

loop-less : tie.Need-loop-g-smaller invariant-loop decreases-loop
loop-less c = let at-loop : At-loop = search in let l = at-loop.loop-g in let start : Start = search in
    rw c.next_ranks-t.ensures (walk-less start.args.caps l.t l.invariant.0 c.before.if-t-caps.false)

loop-again : tie.Need-loop-g-preserved invariant-loop decreases-loop
loop-again c =
    let start : Start = search in let caps = start.args.caps in let p = start.requires in let at-loop : At-loop = search in let l = at-loop.loop-g in
    let else1 : tie.Else-g invariant-loop decreases-loop = search in let at-visit-first : After-visit-first = search in rw c.next_ranks-t.ensures (
      within-next 8 l.t caps l.invariant.0 c.before.if-t-caps.false,
      else1.if-g.false,
      λ r S. walk-next caps (λ v y h. rw p.2 h.0.within) l.invariant.0 (l.invariant.2 r S) l.invariant.1
          (appended-as (at-visit-first.visit_first-g.ensures r S) (λ e y h. h) (λ y h. (l.t, h))) (λ y h. h),
    )

pub firsts_spec : {M : Type 1} → statement M
firsts_spec = tie.close (tie.spec
    invariant-loop decreases-loop loop-holds visit-first-requires
    (λ c. let at-visit-first : After-visit-first = search in at-visit-first.visit_first-g.auto.keys ∙ long-at (search)) returns
    (λ c. let at-visit-first : After-visit-first = search in at-visit-first.visit_first-g.auto.keys ∙ long-at (search))
    returns-2 next-ranks-requires loop-less loop-again)
