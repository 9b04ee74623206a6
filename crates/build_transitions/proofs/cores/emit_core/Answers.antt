-- `build_transitions::cores::emit_core` meets its contract: transitions over different letters are different, so each letter's come to those before.
use Rattle.std.proofs.Common.{◌≡◌, ◌∙◌, ◌/◌, ◌%◌, ◌^◌, ℕ, refl, ap, arith, length, get_or}
use lib.Bits.{bit_and, and_mask}
use Rattle.theory.specs.Automaton.{automaton}
use Rattle.build_spec.specs.Chains.{key_at}
use Rattle.build_spec.specs.Emission.{Emitted, Into}
use Rattle.build_spec.proofs.Cores.{letters-apart, key-cored}
use Rattle.build_spec.proofs.Emission.{emitted-start, emitted-next, emitted-over}
use Rattle.build_transitions.proofs.cores.emit_core.Goals as goal

-- the ranks of an element
ranks-of : (x : ℕ) → bit_and x 281474976710655 / 2 ^ 16 ≡ x % 2 ^ 48 / 256 / 256
ranks-of x = ap (λ (y : ℕ). y / 2 ^ 16) (and_mask x 48) ∙ (let e : x % 2 ^ 48 / 2 ^ 16 ≡ x % 2 ^ 48 / 256 / 256 = omega arith in e)

pub loop-a-init : goal.loop-a-init
loop-a-init c = record { room = refl; fits = c.requires.3; written = λ r T R. emitted-start c.requires.3 }

pub emit_letter-g-requires : goal.emit_letter-g-requires
emit_letter-g-requires c = let a = c.args in let p = c.requires in let e = p.0 in (
  e,
  p.1,
  omega (arith, p.2),
  rw (ranks-of (get_or a.keys.now a.j 0)) (key-cored e.1 (key_at a.keys.now a.j) (e.2 a.j p.2)).0,
  c.lowest-low.ensures,
  c.loop-a-test.true,
  c.loop-a.invariant.fits,
)

pub returns-then-g : goal.returns-then-g
returns-then-g c = let a = c.args in let l = c.loop-a in let x = get_or a.keys.now a.j 0 in
    λ r T R. rw (← ranks-of x) (emitted-over (l.invariant.written r T R) l.invariant.room (c.emit_letter-g.ensures r T R)
    (letters-apart T a.keys.now (bit_and x 281474976710655 / 2 ^ 16) c.requires.1.few l.a c.loop-a-test.true) c.loop-a-test.true c.if-g.true)

pub loop-a-preserved : goal.loop-a-preserved
loop-a-preserved c = let a = c.args in let e = c.requires.0 in let l = c.loop-a in let g = c.emit_letter-g in record {
  room = c.if-g.false;
  fits = (g.ensures e.0 e.1 e.2).kept.fits;
  written = λ r T R. emitted-next (l.invariant.written r T R) l.invariant.room (g.ensures r T R)
      (letters-apart T a.keys.now (bit_and (get_or a.keys.now a.j 0) 281474976710655 / 2 ^ 16) c.requires.1.few l.a c.loop-a-test.true);
}

pub returns : goal.returns
returns c = let a = c.args in let l = c.loop-a in let x = get_or a.keys.now a.j 0 in let e : l.a ≡ a.shape.s = omega arith in λ r T R.
    let all : Emitted (Into (automaton r) a.shape.s a.keys.now (length a.keys.now) (bit_and x 281474976710655 / 2 ^ 16)) a.out.now a.m l.out l.g.m l.g.full =
    rw e at (l.invariant.written r T R) in rw (← ranks-of x) all
