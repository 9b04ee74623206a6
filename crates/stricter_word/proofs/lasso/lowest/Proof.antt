-- `lowest` meets its contract.
use mathlib.Core.Path.{◌≡◌, sym, ◌∙◌}
use mathlib.Core.Bool.{Bool, true, ◌&&◌}
use mathlib.Core.List.{List}
use Prim.Native.Nat.{ℕ, ◌-◌, ◌≤◌, ◌<◌}
use native.Mathlib.Omega.{arith}
use borrow.Author.Rules.{rules}
use borrow.Author.Tests.{lt-ltb, ltb-true}
use lib.Dec.{ltb}
use lib.ListN.{length, get_or}
use Rattle.sets.proofs.Bools.{and_l, and_r, and_i, clash}
use Rattle.graph_walks.proofs.Sums.{has-place}
use Rattle.stricter_laws.specs.Tests.{accepts_in}
use Rattle.slice_search.proofs.Eights.{over_zeros, over-next}
use Rattle.stricter_word.proofs.lasso.lowest.Statement.{statement}
use Rattle.stricter_word.proofs.lasso.lowest.Tie as tie

-- y is not met, or not accepting on the side
abbrev Lacks : List ℕ → List ℕ → Bool → List ℕ → ℕ → Type 0
Lacks lcodes rcodes second marks y = 1 < get_or marks y 0 → accepts_in lcodes rcodes second y ≡ true → ⊥

abbrev invariant-loop : tie.invariant-loop-x
invariant-loop lcodes rcodes second marks x₀ x = (x ≤ length marks) × ((y : ℕ) → 0 ≤ y → y < x → Lacks lcodes rcodes second marks y)

abbrev decreases-loop : tie.decreases-loop-x
decreases-loop lcodes rcodes second marks x₀ x = length marks - x

abbrev Start : Type 0
Start = tie.Start invariant-loop decreases-loop

loop-holds : tie.Need-loop-x-init invariant-loop decreases-loop
loop-holds c = let start : Start = search in let a = start.args in let n = c.next_set-x.ensures in
    (n.within, over_zeros a.marks.now (Lacks a.lcodes.now a.rcodes.now a.second a.marks.now) (λ y e l. absurd (omega arith)) 0 _ n.before)

returns : tie.Need-returns-then-serves invariant-loop decreases-loop
returns c =
    let start : Start = search in let a = start.args in let at-loop : tie.At-loop-x invariant-loop decreases-loop = search in let x = at-loop.loop-x.x in
    let e : ltb 1 (get_or a.marks.now x 0) && accepts_in a.lcodes.now a.rcodes.now a.second x ≡ true = sym c.before.serves.ensures ∙ c.if-serves.true in
    (ltb-true 1 _ (and_l _ _ e), and_r (ltb 1 (get_or a.marks.now x 0)) _ e)

loop-less : tie.Need-loop-x-smaller invariant-loop decreases-loop
loop-less c = let in-loop : tie.In-loop-x invariant-loop decreases-loop = search in omega (arith, c.next_set-x-in-loop-x.ensures.before.ordered, in-loop.loop-x-test.true)

loop-again : tie.Need-loop-x-preserved invariant-loop decreases-loop
loop-again c =
    let start : Start = search in let a = start.args in let at-loop : tie.At-loop-x invariant-loop decreases-loop = search in let l = at-loop.loop-x in let n = c.next_set-x-in-loop-x.ensures in
    let at-serves : tie.After-serves invariant-loop decreases-loop = search in (
      n.within,
      over-next a.marks.now (Lacks a.lcodes.now a.rcodes.now a.second a.marks.now) (λ y e k. absurd (omega arith)) 0 l.x _ l.invariant.1
          (λ m e. clash (at-serves.serves.ensures ∙ and_i (lt-ltb 1 (get_or a.marks.now l.x 0) m) e) c.before.if-serves.false) n.before,
    )

returns-2 : tie.Need-returns invariant-loop decreases-loop
returns-2 c =
    let start : Start = search in let (y, l, e) = start.requires.1 in let place = has-place start.args.marks.now y (omega arith) in
    absurd (c.before.loop-x.invariant.1 y (omega arith) (omega arith) l e)

pub lowest_spec : {M : Type 1} → statement M
lowest_spec = tie.close (tie.spec
    invariant-loop decreases-loop (λ c κs. search rules) loop-holds (λ c κs. search rules) returns (λ c. search rules) (λ c κs. search rules) loop-less loop-again returns-2)
