-- `build_cores::next_ranks` meets its contract.
use Prim.Native.Nat.{ℕ, ◌%◌, ◌≤◌}
use mathlib.Core.Path.{◌≡◌, sym, ◌∙◌}
use native.Mathlib.Omega.{arith}
use native.Mathlib.Nat.{mod-eq_of_lt}
use lib.Bits.{and_mask}
use borrow.Author.Rules.{rules}
use Rattle.build_cores.proofs.Next.{State, end, carry, some_left, next_fits}
use Rattle.build_cores.proofs.next_ranks.Statement.{statement}
use Rattle.build_cores.proofs.next_ranks.Tie as tie

abbrev invariant-loop : tie.invariant-loop-w
invariant-loop ranks caps w₀ c₀ shift₀ w c shift = (w ≤ ranks) × ((m : ℕ) × State ranks caps w c shift m)

abbrev decreases-loop : tie.decreases-loop-w
decreases-loop ranks caps w₀ c₀ shift₀ w c shift = c

loop-holds : tie.Need-loop-w-init invariant-loop decreases-loop
loop-holds c = (omega arith, (8, record { left = omega arith; within = c.requires.2; other = c.requires.3; same = omega arith; low = omega arith; high = omega arith }))

loop-again : tie.Need-loop-w-preserved invariant-loop decreases-loop
loop-again c =
    let l = c.before.loop-w in let e : l.w % 16 ≡ l.c % 16 = sym (and_mask l.w 4) ∙ c.loop-w-test.true ∙ and_mask l.c 4 in
    (omega (arith, l.invariant.0), carry _ _ _ _ _ _ l.invariant.1.1 e)

returns : tie.Need-returns invariant-loop decreases-loop
returns c = let l = c.before.loop-w in let start : tie.Start invariant-loop decreases-loop = search in let p = start.requires in
    mod-eq_of_lt (next_fits _ _ _ _ _ _ l.invariant.1.1 p.1 p.0)
    ∙ sym (end _ _ _ _ _ _ l.invariant.1.1 (λ e. c.loop-w-test.false (and_mask l.w 4 ∙ e ∙ sym (and_mask l.c 4))))

pub next_ranks_spec : {M : Type 1} → statement M
next_ranks_spec = tie.close (tie.spec
    invariant-loop decreases-loop loop-holds (λ c. omega (arith, c.before.loop-w.invariant.1.1.left)) (λ c. let l = c.before.loop-w in omega (arith, some_left _ _ _ _ _ _ l.invariant.1.1))
    loop-again (λ c. let l = c.before.loop-w in omega (arith, l.invariant.0)) (λ c. search rules) (λ c. omega (arith, c.before.loop-w.invariant.1.1.left)) returns)
