-- `clear` meets its contract.
use mathlib.Core.Path.{◌≡◌, refl}
use Prim.Native.Nat.{◌-◌, ◌<◌}
use native.Mathlib.Omega.{arith}
use borrow.Author.Rules.{rules}
use lib.ListN.{length, get_or, length-set}
use Rattle.stricter_laws.proofs.Passes.{Clearing, clearing-start, clearing-over, clearing-set, clearing-end}
use Rattle.stricter_word.proofs.explore.clear.Statement.{statement}
use Rattle.stricter_word.proofs.explore.clear.Tie as tie

abbrev invariant-loop : tie.invariant-loop-x
invariant-loop marks₀ x₀ marks x = (length marks ≡ length marks₀) × (x < length marks → 0 < get_or marks x 0) × Clearing x marks₀ marks

abbrev decreases-loop : tie.decreases-loop-x
decreases-loop marks₀ x₀ marks x = length marks₀ - x

loop-holds : tie.Need-loop-x-init invariant-loop decreases-loop
loop-holds c = let n = c.next_set-x.ensures in (refl, n.set, clearing-over _ n.before.ordered n.before.zeros (clearing-start _))

next-set-requires-2 : tie.Need-next_set-x-requires-in-loop-x invariant-loop decreases-loop
next-set-requires-2 c κs =
    let at-loop : tie.At-loop-x invariant-loop decreases-loop = search in let l = at-loop.loop-x in let h = length-set l.marks l.x 1 in (omega (arith, h, c.loop-x-test.true), omega arith)

loop-less : tie.Need-loop-x-smaller invariant-loop decreases-loop
loop-less c = let in-loop : tie.In-loop-x invariant-loop decreases-loop = search in let at-loop : tie.At-loop-x invariant-loop decreases-loop = search in
    omega (arith, c.next_set-x-in-loop-x.ensures.before.ordered, in-loop.loop-x-test.true, at-loop.loop-x.invariant.0)

loop-again : tie.Need-loop-x-preserved invariant-loop decreases-loop
loop-again c =
    let at-loop : tie.At-loop-x invariant-loop decreases-loop = search in let l = at-loop.loop-x in let n = c.next_set-x-in-loop-x.ensures in let in-loop : tie.In-loop-x invariant-loop decreases-loop = search in
    let m = clearing-over _ n.before.ordered n.before.zeros (clearing-set (l.invariant.1 in-loop.loop-x-test.true) l.invariant.2) in (m.long, n.set, m)

pub clear_spec : {M : Type 1} → statement M
clear_spec = tie.close (tie.spec
    invariant-loop decreases-loop (λ c κs. search rules) loop-holds (λ c. search rules) (λ c. search rules) next-set-requires-2 loop-less loop-again (λ c. c.before.loop-x.invariant.0)
    (λ c. clearing-end (omega arith) c.before.loop-x.invariant.2))
