-- `is_mixed` meets its contract: the rule is mixed where some class holds both kinds.
use Rattle.std.proofs.Common.{◌≡◌, ℕ, refl, sym, ap, ◌∙◌, add-one, arith}
use Rattle.sets.specs.Tests.{some_below}
use Rattle.sets.proofs.Tests.{some_at}
use Rattle.rule_entries.specs.Entries.{rule_of}
use Rattle.rule_components.proofs.Mixed.{both_by, both-at, mixed-by}
use Rattle.rule_components.proofs.is_mixed.Goals as goal

pub loop-q-init : goal.loop-q-init
unfolding some_below
loop-q-init c = refl

pub loop-q-preserved : goal.loop-q-preserved
unfolding some_below
loop-q-preserved c = rw (add-one, c.loop-q.invariant) (both-at c.closures-reach.result _ _ c.loop-q.q _ _ _ c.class_of.ensures c.both_kinds.ensures c.if-both_kinds.false)

pub returns-then-both_kinds : goal.returns-then-both_kinds
returns-then-both_kinds c = let a = c.args in let t = c.closures-reach in
    sym (mixed-by (rule_of a.h a.counts.now a.clauses.now) c.requires.few_states t.result t.ensures
    ∙ some_at _ _ c.loop-q.q c.loop-q-test.true (both-at c.closures-reach.result _ _ c.loop-q.q _ _ _ c.class_of.ensures c.both_kinds.ensures c.if-both_kinds.true))

pub returns : goal.returns
returns c = let a = c.args in let t = c.closures-reach in let e : c.loop-q.q ≡ a.h.n = omega arith in
    sym (mixed-by (rule_of a.h a.counts.now a.clauses.now) c.requires.few_states t.result t.ensures
    ∙ ap (λ (x : ℕ). some_below x (both_by t.result a.h.n a.h.accepting)) (sym e) ∙ c.loop-q.invariant)
