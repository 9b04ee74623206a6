-- `rule_reach::closure` meets its contract: what is found holds q and lies in every closed set that does; at rest it is closed.
use Prim.Native.Nat.{ℕ, ◌-◌, ◌<◌}
use mathlib.Core.Path.{◌≡◌, sym}
use mathlib.Core.Bool.{true}
use native.Mathlib.Omega.{arith}
use borrow.Author.Rules.{rules}
use lib.Bits.{bit_or, or_lt}
use lib.Pow.{pow-lt}
use Rattle.sets.specs.Tests.{Set}
use Rattle.sets.specs.Masks.{bit}
use Rattle.sets.proofs.Bits.{or-ge, shl_one}
use Rattle.rule_reach.proofs.Rounds.{Closed, alone-bit, alone-only, round-closed, round-least, round_keeps}
use Rattle.rule_reach.proofs.closure.Statement.{statement}
use Rattle.rule_reach.proofs.closure.Tie as tie

abbrev invariant-loop : tie.invariant-loop-found
invariant-loop es q found₀ found = (found < 256) × (bit found q ≡ true) × ((X : Set) → X q ≡ true → Closed es X → (t : ℕ) → t < 8 → bit found t ≡ true → X t ≡ true)

abbrev decreases-loop : tie.decreases-loop-found
decreases-loop es q found₀ found = 256 - found

loop-holds : tie.Need-loop-found-init invariant-loop decreases-loop
loop-holds c = let q = c.args.q in let e = shl_one 8 q c.requires in (rw e (pow-lt c.requires), rw e (alone-bit q), λ X x k t l y. rw (sym (alone-only q t (rw e at y))) x)

returns : tie.Need-returns-then-next-found invariant-loop decreases-loop
returns c =
    let start : tie.Start invariant-loop decreases-loop = search in let es = start.args.es.now in let at-loop : tie.At-loop-found invariant-loop decreases-loop = search in let l = at-loop.loop-found in
    let stable : bit_or l.found c.before.union_over.result ≡ l.found = omega (arith, c.if-next-found.true) in
    record { holds = l.invariant.1; closed = round-closed es l.found c.before.union_over.result c.before.union_over.ensures stable; least = l.invariant.2 }

loop-less : tie.Need-loop-found-smaller invariant-loop decreases-loop
loop-less c = let at-loop : tie.At-loop-found invariant-loop decreases-loop = search in let l = at-loop.loop-found in let u = c.before.union_over.result in
    omega (arith, or-ge l.found u, or_lt 8 l.found u l.invariant.0 c.before.union_over.type_inv, c.if-next-found.false)

loop-again : tie.Need-loop-found-preserved invariant-loop decreases-loop
loop-again c =
    let start : tie.Start invariant-loop decreases-loop = search in let es = start.args.es.now in let at-loop : tie.At-loop-found invariant-loop decreases-loop = search in let l = at-loop.loop-found in
    let u = c.before.union_over.result in let e = c.before.union_over.ensures in (
      or_lt 8 l.found u l.invariant.0 c.before.union_over.type_inv,
      round_keeps es l.found u e start.args.q l.invariant.1,
      λ X x k. round-least es l.found u e X k (l.invariant.2 X x k),
    )

pub closure_spec : {M : Type 1} → statement M
closure_spec = tie.close (tie.spec invariant-loop decreases-loop (λ c. omega arith) (λ c. omega arith) loop-holds (λ c κs. search rules) returns loop-less loop-again)
