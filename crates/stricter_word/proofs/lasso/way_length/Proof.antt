-- `way_length` meets its contract.
use mathlib.Core.Path.{◌≡◌, sym}
use Prim.Native.Nat.{ℕ, suc, ◌+◌, ◌-◌, ◌≤◌, ◌<◌}
use native.Mathlib.Omega.{arith}
use lib.ListN.{length}
use Rattle.graph_walks.proofs.Sums.{has-place}
use Rattle.stricter_laws.specs.Pairs.{PairStep}
use Rattle.stricter_laws.specs.Forest.{kind_in, Back}
use Rattle.stricter_laws.proofs.Forest.{back-met}
use Rattle.stricter_laws.proofs.Expand.{searchable-paired}
use Rattle.stricter_laws.proofs.Pairs.{step-lettered, kind-low}
use Rattle.stricter_laws.proofs.Routes.{back_some, back-far, back-near}
use Rattle.stricter_word.proofs.lasso.way_length.Statement.{statement}
use Rattle.stricter_word.proofs.lasso.way_length.Tie as tie

abbrev invariant-loop : tie.invariant-loop-x
invariant-loop lcodes left rcodes right origin marks y x₀ k₀ x k =
    (d : ℕ) × (e : ℕ) × (e ≤ length marks) × (e + 1 ≡ k + d) × Back (PairStep (length rcodes) left right) (kind_in lcodes rcodes) origin marks y e
    × Back (PairStep (length rcodes) left right) (kind_in lcodes rcodes) origin marks x d

abbrev decreases-loop : tie.decreases-loop-x
decreases-loop lcodes left rcodes right origin marks y x₀ k₀ x k = length marks - k

abbrev Start : Type 0
Start = tie.Start invariant-loop decreases-loop

abbrev At-loop : Type 0
At-loop = tie.At-loop-x invariant-loop decreases-loop

loop-holds : tie.Need-loop-x-init invariant-loop decreases-loop
loop-holds c = let start : Start = search in let (d, h, b) = start.requires.1 in (d, d, h, omega arith, b, b)

-- the pair is met
low : (c : At-loop) → let start : Start = search in c.loop-x.x < length start.args.marks.now
low c = let h = back-met c.loop-x.invariant.5 in let start : Start = search in has-place start.args.marks.now c.loop-x.x (omega arith)

parent-requires : tie.Need-parent-x-requires invariant-loop decreases-loop
parent-requires c κs = let start : Start = search in (start.requires.0.0, start.requires.0.1, rw (sym start.requires.0.2) (low (search)))

abbrev start-of-after-parent : tie.After-parent-x invariant-loop decreases-loop → Start
start-of-after-parent c = search

-- the step before
back : (c : tie.After-parent-x invariant-loop decreases-loop) → let at-loop : At-loop = search in (e : ℕ) × (at-loop.loop-x.invariant.0 ≡ suc e)
    × Back (PairStep (length (start-of-after-parent c).args.rcodes.now) (start-of-after-parent c).args.left.now (start-of-after-parent c).args.right.now)
    (kind_in (start-of-after-parent c).args.lcodes.now (start-of-after-parent c).args.rcodes.now) (start-of-after-parent c).args.origin (start-of-after-parent c).args.marks.now
    c.parent-x.result e
back c = let a = (start-of-after-parent c).args in let at-loop : At-loop = search in back-far
    (step-lettered (searchable-paired (start-of-after-parent c).requires.0.0 (start-of-after-parent c).requires.0.1)) (kind-low _ _) a.origin a.marks.now
    at-loop.loop-x.invariant.5 (omega arith) c.parent-x.ensures

more : (c : tie.After-parent-x invariant-loop decreases-loop) → let at-loop : At-loop = search in
    at-loop.loop-x.k < length (start-of-after-parent c).args.marks.now
more c = let a = (start-of-after-parent c).args in let (e, f, b) = back c in let h = back_some
    (step-lettered (searchable-paired (start-of-after-parent c).requires.0.0 (start-of-after-parent c).requires.0.1)) (kind-low _ _) a.origin a.marks.now b in
    let at-loop : At-loop = search in omega (arith, at-loop.loop-x.invariant.2, at-loop.loop-x.invariant.3)

loop-again : tie.Need-loop-x-preserved invariant-loop decreases-loop
loop-again c = let (e, f, b) = back c in let at-loop : At-loop = search in (
  e,
  at-loop.loop-x.invariant.1,
  at-loop.loop-x.invariant.2,
  omega (arith, at-loop.loop-x.invariant.3),
  at-loop.loop-x.invariant.4,
  b,
)

returns : tie.Need-returns invariant-loop decreases-loop
returns c = let start : Start = search in let a = start.args in let at-loop : At-loop = search in let i = at-loop.loop-x.invariant in
    let d = back-near
    (step-lettered (searchable-paired start.requires.0.0 start.requires.0.1)) (kind-low _ _) a.origin a.marks.now i.5 (omega arith) in
    let e : i.1 ≡ at-loop.loop-x.k = omega (arith, i.3) in (omega (arith, i.2), rw e at i.4)

pub way_length_spec : {M : Type 1} → statement M
way_length_spec = tie.close (tie.spec
    invariant-loop decreases-loop loop-holds (λ c. low c.before) (λ c. low (search)) parent-requires (λ c. let h = more c in omega arith)
    (λ c. let h = more c in omega arith) loop-again returns)
