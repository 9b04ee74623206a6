-- `build_transitions::cores::emit` meets its contract: a core that was met before adds nothing, and another one adds its transitions.
use Rattle.std.proofs.Common.{◌≡◌, ◌/◌, ℕ, refl, ap, arith, length}
use Rattle.build_spec.proofs.Cores.{fresh}
use Rattle.build_spec.proofs.Emission.{emitted-start, emitted-skip, emitted-next, emitted-over}
use Rattle.build_transitions.proofs.cores.emit.Goals as goal

pub loop-j-init : goal.loop-j-init
loop-j-init c = record { room = refl; fits = omega arith; written = λ r T R. emitted-start (omega arith) }

pub loop-j-preserved-then-core_before : goal.loop-j-preserved-then-core_before
loop-j-preserved-then-core_before c = let v = c.loop-j.invariant in let b = c.core_before.ensures.0 c.if-core_before.true in
    record { room = v.room; fits = v.fits; written = λ r T R. emitted-skip (v.written r T R) (λ y f. (b.0, b.1, rw (ap (λ (x : ℕ). x / 256) b.2) f)) }

pub emit_core-g-requires : goal.emit_core-g-requires
emit_core-g-requires c = (c.requires.0, c.requires.1, c.loop-j-test.true, c.loop-j.invariant.fits)

pub returns-then-g : goal.returns-then-g
returns-then-g c = let l = c.loop-j in let new = c.core_before.ensures.1 c.if-core_before.false in
    λ r T R. emitted-over (l.invariant.written r T R) l.invariant.room (c.emit_core-g.ensures r T R) (fresh T c.requires.1 R l.j c.loop-j-test.true new) c.loop-j-test.true c.if-g.true

pub loop-j-preserved : goal.loop-j-preserved
loop-j-preserved c = let l = c.loop-j in let e = c.requires.0 in let g = c.emit_core-g in let new = c.core_before.ensures.1 c.if-core_before.false in record {
  room = c.if-g.false;
  fits = (g.ensures e.0 e.1 e.2).kept.fits;
  written = λ r T R. emitted-next (l.invariant.written r T R) l.invariant.room (g.ensures r T R) (fresh T c.requires.1 R l.j c.loop-j-test.true new);
}

pub returns : goal.returns
returns c = let l = c.loop-j in let e : l.j ≡ length c.args.keys.now = omega arith in λ r T R. rw e at (l.invariant.written r T R)
