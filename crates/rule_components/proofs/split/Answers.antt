-- `split` meets its contract: q's class is written where q is its smallest state.
use Rattle.std.proofs.Common.{◌≡◌, ℕ, List, ◌+◌, refl, ap, ◌∙◌, arith}
use Rattle.sets.specs.Tests.{count}
use Rattle.theory.specs.Components.{is_smallest}
use Rattle.rule_entries.specs.Entries.{rule_of}
use Rattle.rule_reach.specs.Tables.{closures_of}
use Rattle.rule_reach.proofs.Tables.{table_none}
use Rattle.rule_components.proofs.Mixed.{class_by}
use Rattle.rule_components.proofs.Numbered.{Found, turn-taken, turn-passed, count-few, laid_out}
use Rattle.rule_components.proofs.split.Goals.{then-class-q, else-class-q}
use Rattle.rule_components.proofs.split.Goals as goal

pub loop-q-init : goal.loop-q-init
unfolding count
loop-q-init c = (refl, table_none _)

pub bounds-masks-count : goal.bounds-masks-count
bounds-masks-count c = let a = c.args in let few = c.requires.few_states in omega (arith, count-few (rule_of a.h a.counts.now a.clauses.now) few c.loop-q.q)

pub overflow_add-count : goal.overflow_add-count
overflow_add-count c = let a = c.args in let few = c.requires.few_states in omega (arith, count-few (rule_of a.h a.counts.now a.clauses.now) few c.loop-q.q)

pub loop-q-preserved : goal.loop-q-preserved
loop-q-preserved c =
    let a = c.args in let few = c.requires.few_states in let l = c.loop-q in let r = rule_of a.h a.counts.now a.clauses.now in let class = c.class_of-class.result in let j = c.if-class-q in
    let e : class ≡ class_by (closures_of r) a.h.n l.q = c.class_of-class.ensures ∙ ap (λ (t : List ℕ). class_by t a.h.n l.q) c.closures-reach.ensures in
    let f : Found r few l.q l.count l.masks = record { number = l.invariant.0; laid = l.invariant.1 } in
    let g : Found r few (l.q + 1) j.count j.masks = elim j.branch [
      | then-class-q w ↦ turn-taken r few l.q class l.count j.count l.masks j.masks c.loop-q-test.true e f _ w.if-class-q.true w.masks-is (omega arith) w.count-is
      | else-class-q w ↦ turn-passed r few l.q class l.count j.count l.masks j.masks c.loop-q-test.true e f w.if-class-q.false w.masks-is w.count-is
    ] in (g.number, g.laid)

pub returns : goal.returns
returns c =
    let a = c.args in let l = c.loop-q in let r = rule_of a.h a.counts.now a.clauses.now in let e : l.q ≡ a.h.n = omega arith in
    laid_out r c.requires.few_states l.masks l.count l.invariant.1 (l.invariant.0 ∙ ap (λ (x : ℕ). count x (is_smallest r)) e)
