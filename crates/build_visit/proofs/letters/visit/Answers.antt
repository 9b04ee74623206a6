-- `build_visit::letters::visit` meets its contract: each letter's keys come to those before, as long as there is room.
use Rattle.std.proofs.Common.{◌≡◌, ◌∙◌, refl, sym, arith}
use Rattle.sets.proofs.Bools.{clash}
use Rattle.theory.specs.Automaton.{automaton}
use Rattle.build_spec.specs.Keys.{LeadsOver}
use Rattle.build_spec.proofs.Appended.{appended-none, appended-as}
use Rattle.build_spec.proofs.Growth.{all-kept, after_kept, upto-start, upto_next, upto-full}
use Rattle.build_spec.proofs.Letters.{letters-out}
use Rattle.build_spec.proofs.Starting.{few}
use Rattle.build_visit.proofs.letters.visit.Goals as goal

pub is_core-requires : goal.is_core-requires
is_core-requires c = few c.requires.0.1.shaped

pub returns-then-not-is_core : goal.returns-then-not-is_core
returns-then-not-is_core c = λ r T R. appended-none c.requires.1 (λ y f. absurd (clash f.0.passes (sym c.is_core.ensures ∙ c.if-not-is_core.true)))

pub loop-a-init : goal.loop-a-init
loop-a-init c = record { room = refl; grown = λ r T R. upto-start c.requires.1 }

pub visit_letter-g-requires : goal.visit_letter-g-requires
visit_letter-g-requires c = let p = c.requires in let e = p.0 in let i = c.loop-a.invariant.grown e.0 e.1 e.2 in (
  (e.0, e.1, all-kept i e.2),
  i.kept,
  omega (arith, p.2, i.more),
  record { within = p.3; passes = sym c.is_core.ensures ∙ c.if-not-is_core.false },
  c.lowest-low.ensures,
  c.loop-a-test.true,
)

pub returns-then-g : goal.returns-then-g
returns-then-g c = let v = c.loop-a.invariant in λ r T R. let i = v.grown r T R in upto-full i v.room (c.visit_letter-g.ensures r T (all-kept i R)) c.if-g.true

pub loop-a-preserved : goal.loop-a-preserved
loop-a-preserved c = let v = c.loop-a.invariant in record {
  room = c.if-g.false;
  grown = λ r T R. let i = v.grown r T R in
      upto_next i v.room (c.visit_letter-g.ensures r T (all-kept i R)) (λ y h. after_kept i (LeadsOver (automaton r) c.args.ranks c.loop-a.a) h);
}

pub returns : goal.returns
returns c = let a = c.args in let l = c.loop-a in let e : l.a ≡ a.shape.s = omega arith in
    λ r T R. appended-as (rw e at (l.invariant.grown r T R)) (λ t. letters-out (automaton r) a.parts.now a.shape.components a.shape.s a.from a.n a.keys.now a.ranks) (λ y h. h)
