-- `build_chains::core_before` meets its contract: the walk along the chain below a place meets every lower place of its core.
use Prim.Native.Nat.{ℕ, ◌/◌, ◌%◌, ◌^◌, ◌<◌}
use mathlib.Core.Path.{◌≡◌, sym, ◌∙◌, ap}
use mathlib.Core.Bool.{true≢false, false≢true}
use native.Mathlib.Omega.{arith}
use lib.Bits.{bit_and, and_mask}
use lib.ListN.{get_or}
use Rattle.build_spec.specs.Chains.{key_at, bucket_of, bucket_at}
use Rattle.build_spec.proofs.Walks.{Walked, Met, walk_from, walk_inside, walk-met, walk-next, walk_end}
use Rattle.build_chains.proofs.core_before.Statement.{statement}
use Rattle.build_chains.proofs.core_before.Tie as tie

abbrev invariant-loop : tie.invariant-loop-n
invariant-loop keys heads last n j own q₀ q = Walked (Met (λ p. key_at keys p / 256 ≡ key_at keys j / 256 → ⊥) keys j (bucket_at keys j)) keys j (bucket_at keys j) q

abbrev decreases-loop : tie.decreases-loop-n
decreases-loop keys heads last n j own q₀ q = q

abbrev Start : Type 0
Start = tie.Start invariant-loop decreases-loop

abbrev At-loop : Type 0
At-loop = tie.At-loop-n invariant-loop decreases-loop

loop-holds : tie.Need-loop-n-init invariant-loop decreases-loop
loop-holds c =
    let start : Start = search in let a = start.args in let p = start.requires in let some : 0 < a.j = omega (arith, c.before.if-j-eq0.false) in
    walk_from some (p.0.links a.j some p.1) (λ p k j e. absurd (omega arith))

inside : (c : At-loop) → let start : Start = search in c.loop-n.q < start.args.j
inside c = walk_inside c.loop-n.invariant

mul-x : tie.Need-offset_bounds-keys-q invariant-loop decreases-loop
mul-x c = let start : Start = search in let p = start.requires in omega (arith, inside c, p.1, p.0.fits, p.0.few)

shared-slice-read-x : tie.Need-bounds-keys-q invariant-loop decreases-loop
shared-slice-read-x c = let start : Start = search in let p = start.requires in omega (arith, inside c.before, p.1, p.0.fits)

-- the core of an element
core : (x : ℕ) → bit_and x 281474976710655 / 2 ^ 8 ≡ x % 2 ^ 48 / 256
core x = ap (λ (y : ℕ). y / 2 ^ 8) (and_mask x 48)

returns-2 : tie.Need-returns-then-x-own invariant-loop decreases-loop
returns-2 c = let start : Start = search in let a = start.args in let at-loop : At-loop = search in let i = at-loop.loop-n.q in
    (λ t. (i, inside (search), sym (core (get_or a.keys.now i 0)) ∙ c.if-x-own.true ∙ core (get_or a.keys.now a.j 0)), λ t. absurd (true≢false t))

-- the core at the place is another
other : (c : tie.Else-x-own invariant-loop decreases-loop) → let start : Start = search in let at-loop : At-loop = search in
    key_at start.args.keys.now at-loop.loop-n.q / 256 ≡ key_at start.args.keys.now start.args.j / 256 → ⊥
other c e = let start : Start = search in let a = start.args in let at-loop : At-loop = search in
    c.if-x-own.false (core (get_or a.keys.now at-loop.loop-n.q 0) ∙ e ∙ sym (core (get_or a.keys.now a.j 0)))

returns-3 : tie.Need-returns-then-q-eq0 invariant-loop decreases-loop
returns-3 c = let at-loop : At-loop = search in let l = at-loop.loop-n in let last : l.q ≡ 0 = omega (arith, c.if-q-eq0.true) in
    (λ t. absurd (false≢true t), λ t h. walk_end l.invariant last (other c.before) h.0 h.1 (ap bucket_of h.2) h.2)

loop-less : tie.Need-loop-n-smaller invariant-loop decreases-loop
loop-less c = let start : Start = search in let p = start.requires in let at-loop : At-loop = search in let l = at-loop.loop-n in
    let z = (p.0.links l.q (omega (arith, c.if-q-eq0.false)) (omega (arith, inside (search), p.1))).inside in omega (arith, c.if-q-eq0.false)

loop-again : tie.Need-loop-n-preserved invariant-loop decreases-loop
loop-again c = let start : Start = search in let p = start.requires in let at-loop : At-loop = search in let w = at-loop.loop-n.invariant in
    walk-next w (λ q h k. p.0.links q h (omega (arith, p.1))) c.if-q-eq0.false (walk-met w (other c.before))

pub core_before_spec : {M : Type 1} → statement M
core_before_spec = tie.close (tie.spec
    invariant-loop decreases-loop (λ c. (λ t. absurd (false≢true t), λ t h. omega (arith, h.1, c.if-j-eq0.true))) (λ c. let p = c.before.requires in omega (arith, p.1, p.0.fits, p.0.few))
    (λ c. let start : Start = search in let p = start.requires in omega (arith, p.1, p.0.fits)) loop-holds mul-x shared-slice-read-x returns-2 returns-3
    loop-less loop-again)
