-- `build_transitions::sources::emit_source` meets its contract.
use Prim.Native.Nat.{ℕ, ◌+◌, ◌*◌, ◌/◌, ◌%◌, ◌^◌, ◌<◌}
use mathlib.Core.Path.{◌≡◌, refl, ap, sym, ◌∙◌}
use native.Mathlib.Omega.{arith}
use lib.Bits.{and_mask}
use lib.ListN.{length}
use borrow.Author.Rules.{rules}
use Rattle.codes.specs.Codes.{transition_of}
use Rattle.build_cores.specs.Onward.{onward_in}
use Rattle.build_spec.specs.Chains.{key_at, Found}
use Rattle.build_spec.proofs.Moves.{key-onward}
use Rattle.build_spec.proofs.Emission.{emitted-none, emitted-full, emitted-put}
use Rattle.build_spec.proofs.Sources.{crossed}
use Rattle.build_transitions.proofs.sources.emit_source.Statement.{statement}
use Rattle.build_transitions.proofs.sources.emit_source.Tie as tie

returns : tie.Need-returns-then-key-step
returns c = let start : tie.Start = search in let p = start.requires in emitted-none p.7 (λ y h. c.if-key-step.true (ap (λ (x : ℕ). x / 2 ^ 8) p.2 ∙ h.2.from))

onward-requires : tie.Need-onward-pair-requires
onward-requires c κs = let start : tie.Start = search in let p = start.requires in let e = and_mask start.args.key 8 in (omega (arith, e), omega (arith, e, p.3), p.4)

find-requires : tie.Need-find-t-requires
find-requires c κs = let start : tie.Start = search in let a = start.args in let p = start.requires in
    let k = key-onward a.step.ranks a.parts.now a.step.components a.levels.now a.step.core a.key p.4 p.3 p.5 c.before.onward-pair.ensures in
    (p.0, rw k.0 k.1)

-- the place of the key that the key goes on to
place : (c : tie.After-find-t) → let start : tie.Start = search in let a = start.args in Found a.keys.now (length a.keys.now)
    (a.step.core * 256 + onward_in a.step.ranks a.parts.now a.step.components a.levels.now (key_at a.keys.now a.p % 256)) c.find-t.result
place c =
    let start : tie.Start = search in let a = start.args in let p = start.requires in let onto = onward_in a.step.ranks a.parts.now a.step.components a.levels.now in
    let at_onward : tie.After-onward-pair = search in
    let k = key-onward a.step.ranks a.parts.now a.step.components a.levels.now a.step.core a.key p.4 p.3 p.5 at_onward.onward-pair.ensures in
    rw (k.0 ∙ ap (λ (x : ℕ). a.step.core * 256 + onto (x % 256)) p.2) at c.find-t.ensures

returns-2 : tie.Need-returns-then-keys-t
returns-2 c = let start : tie.Start = search in emitted-none start.requires.7 (λ y h. (place c.before).none c.if-keys-t.true (h.0, h.1, h.2.to))

returns-3 : tie.Need-returns-then-m-out
returns-3 c =
    let start : tie.Start = search in let a = start.args in let p = start.requires in let at-find : tie.After-find-t = search in let t = at-find.find-t.result in
    let there : t < length a.keys.now = omega (arith, c.before.if-keys-t.false) in let else1 : tie.Else-key-step = search in
    emitted-full (transition_of a.p a.step.letter t)
    (t, there, record { from = sym (ap (λ (x : ℕ). x / 2 ^ 8) p.2) ∙ else1.if-key-step.false; to = (place at-find).hit there }, refl) (omega (arith, c.if-m-out.true, p.7))

pack-transition-requires : tie.Need-pack_transition-requires
pack-transition-requires c κs = let start : tie.Start = search in let p = start.requires in (omega (arith, p.1, p.0.few), omega (arith, p.6), omega (arith, c.before.if-keys-t.false, p.0.few))

returns-4 : tie.Need-returns
returns-4 c =
    let start : tie.Start = search in let a = start.args in let p = start.requires in let at-find : tie.After-find-t = search in let t = at-find.find-t.result in let else2 : tie.Else-keys-t = search in
    let there : t < length a.keys.now = omega (arith, else2.if-keys-t.false) in
    let packed : c.pack_transition.result ≡ transition_of a.p a.step.letter t = c.pack_transition.ensures in let else1 : tie.Else-key-step = search in
    rw packed (emitted-put (transition_of a.p a.step.letter t) (omega (arith, p.7, c.before.if-m-out.false))
    (t, there, record { from = sym (ap (λ (x : ℕ). x / 2 ^ 8) p.2) ∙ else1.if-key-step.false; to = (place at-find).hit there }, refl)
    (crossed a.step.letter a.p p.0 (place at-find) there))

pub emit_source_spec : {M : Type 1} → statement M
emit_source_spec = tie.close (tie.spec
    returns onward-requires find-requires returns-2 returns-3 pack-transition-requires (λ c. search rules)
    (λ c. let start : tie.Start = search in omega (arith, start.requires.7, c.before.if-m-out.false)) (λ c. search rules) (λ c. search rules) returns-4)
