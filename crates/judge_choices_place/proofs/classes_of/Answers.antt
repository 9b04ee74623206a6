-- `classes_of` meets its contract: what is written for state q is the mask of its component.
use Rattle.std.proofs.Common.{arith, List, ℕ, eqb, ap, ◌∙◌}
use Rattle.std.proofs.Math.ListN.{length-set}
use Rattle.sets.specs.Masks.{mask}
use Rattle.sets.proofs.Walks.{put_next}
use Rattle.theory.specs.Components.{component}
use Rattle.rule_entries.specs.Entries.{rule_of}
use Rattle.rule_components.proofs.Mixed.{class_by}
use Rattle.judge_choices_place.proofs.Classes.{class-mask}
use Rattle.judge_choices_place.proofs.classes_of.Goals as goal

pub loop-q-preserved : goal.loop-q-preserved
loop-q-preserved c =
    let h = c.args.h in let q = c.loop-q.q in let r = rule_of h c.args.counts.now c.args.clauses.now in let few = c.requires.0.few_states in
    let v = c.class_of.ensures ∙ ap (λ (x : List ℕ). class_by x h.n q) c.requires.1 ∙ class-mask r few q c.loop-q-test.true in
    let long = c.loop-q.invariant.0 in (
      length-set c.loop-q.classes q _ ∙ long,
      put_next (λ p. mask h.n (λ x. eqb (component r x) (component r p))) c.loop-q.classes q _ (omega (arith, few)) v c.loop-q.invariant.1,
    )
