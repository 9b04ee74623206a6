-- `build_chains::find` meets its contract: the walk along the chain of a key meets it, if it is there.
use Prim.Native.Nat.{ℕ, ◌/◌, ◌<◌}
use mathlib.Core.Path.{◌≡◌, sym, ◌∙◌, ap}
use native.Mathlib.Omega.{arith}
use lib.Bits.{and_mask}
use lib.ListN.{get_or}
use borrow.Author.Rules.{rules}
use Rattle.build_spec.specs.Chains.{key_at, bucket_of}
use Rattle.build_spec.proofs.Chains.{bucket-low}
use Rattle.build_spec.proofs.Walks.{Walked, Met, walk_from, walk_inside, walk-met, walk-next, walk_end}
use Rattle.build_chains.proofs.find.Statement.{statement}
use Rattle.build_chains.proofs.find.Tie as tie

abbrev invariant-loop : tie.invariant-loop-n
invariant-loop keys heads last n key i₀ i = Walked (Met (λ p. key_at keys p ≡ key → ⊥) keys n (bucket_of (key / 256))) keys n (bucket_of (key / 256)) i

abbrev decreases-loop : tie.decreases-loop-n
decreases-loop keys heads last n key i₀ i = i

abbrev Start : Type 0
Start = tie.Start invariant-loop decreases-loop

abbrev At-loop : Type 0
At-loop = tie.At-loop-n invariant-loop decreases-loop

returns : tie.Need-returns-then-n-eq0 invariant-loop decreases-loop
returns c = record { hit = λ l. absurd (omega arith); none = λ l h. omega (arith, h.1, c.if-n-eq0.true) }

loop-holds : tie.Need-loop-n-init invariant-loop decreases-loop
loop-holds c = let start : Start = search in let a = start.args in let p = start.requires in
    rw c.chain_top-i.ensures (walk_from (omega (arith, c.before.if-n-eq0.false)) (p.0.begin (bucket_of (a.key / 256)) (bucket-low (a.key / 256))) (λ p k j e. absurd (omega arith)))

inside : (c : At-loop) → let start : Start = search in c.loop-n.i < start.args.n
inside c = walk_inside c.loop-n.invariant

mul-x : tie.Need-offset_bounds-keys-i invariant-loop decreases-loop
mul-x c = let start : Start = search in omega (arith, inside c, start.requires.0.fits, start.requires.0.few)

shared-slice-read-x : tie.Need-bounds-keys-i invariant-loop decreases-loop
shared-slice-read-x c = let start : Start = search in omega (arith, inside c.before, start.requires.0.fits)

returns-2 : tie.Need-returns-then-x-key invariant-loop decreases-loop
returns-2 c = let start : Start = search in let a = start.args in let at-loop : At-loop = search in let i = at-loop.loop-n.i in
    record { hit = λ l. sym (and_mask (get_or a.keys.now i 0) 48) ∙ c.if-x-key.true; none = λ l. absurd (let h = inside (search) in omega arith) }

abbrev start-of-else2 : tie.Else-x-key invariant-loop decreases-loop → Start
start-of-else2 c = search

-- the key at the place is another
other : (c : tie.Else-x-key invariant-loop decreases-loop) → let at-loop : At-loop = search in
    key_at (start-of-else2 c).args.keys.now at-loop.loop-n.i ≡ (start-of-else2 c).args.key → ⊥
other c e = let at-loop : At-loop = search in c.if-x-key.false (and_mask (get_or (start-of-else2 c).args.keys.now at-loop.loop-n.i 0) 48 ∙ e)

returns-3 : tie.Need-returns-then-i-eq0 invariant-loop decreases-loop
returns-3 c = let at-loop : At-loop = search in let l = at-loop.loop-n in let last : l.i ≡ 0 = omega (arith, c.if-i-eq0.true) in
    record { hit = λ l. absurd (omega arith); none = λ z h. walk_end l.invariant last (other c.before) h.0 h.1 (ap (λ (y : ℕ). bucket_of (y / 256)) h.2) h.2 }

loop-less : tie.Need-loop-n-smaller invariant-loop decreases-loop
loop-less c = let at-loop : At-loop = search in let l = at-loop.loop-n in let start : Start = search in
    let z = (start.requires.0.links l.i (omega (arith, c.if-i-eq0.false)) (inside (search))).inside in omega (arith, c.if-i-eq0.false)

loop-again : tie.Need-loop-n-preserved invariant-loop decreases-loop
loop-again c = let at-loop : At-loop = search in let w = at-loop.loop-n.invariant in let start : Start = search in
    walk-next w start.requires.0.links c.if-i-eq0.false (walk-met w (other c.before))

pub find_spec : {M : Type 1} → statement M
find_spec = tie.close (tie.spec
    invariant-loop decreases-loop returns (λ c κs. let start : Start = search in let p = start.requires in omega (arith, p.1)) (λ c. search rules) loop-holds mul-x shared-slice-read-x
    returns-2 returns-3 loop-less loop-again)
