-- `same_entries` meets its contract: what `same_state` answers at each state.
use Rattle.std.proofs.Common.{◌≡◌, ℕ, refl, ap, sym, ◌∙◌, arith}
use Rattle.sets.specs.Tests.{every}
use Rattle.sets.proofs.Tests.{every-next, every-stop}
use Rattle.theory.specs.Rule.{entry}
use Rattle.rule_entries.specs.Entries.{rule_of}
use Rattle.rule_same.specs.Same.{same_entry_lem, same_entries_lem}
use Rattle.rule_same.proofs.entries.same_entries.Goals as goal

pub loop-q-init : goal.loop-q-init
unfolding every
loop-q-init c = refl

pub loop-q-preserved : goal.loop-q-preserved
loop-q-preserved c = every-next c.loop-q.q _ c.loop-q.invariant (sym c.same_state.ensures ∙ c.if-not-same_state.false)

pub returns-then-not-same_state : goal.returns-then-not-same_state
unfolding same_entries_lem
returns-then-not-same_state c = sym (every-stop _ _ c.loop-q.q c.loop-q-test.true (sym c.same_state.ensures ∙ c.if-not-same_state.true))

pub returns : goal.returns
unfolding same_entries_lem
returns c = let a = c.args in let e : c.loop-q.q ≡ a.h.n = omega arith in
    sym (ap (λ (x : ℕ). every x (λ p. every a.h.s (λ b. same_entry_lem a.h.n (entry (rule_of a.h a.counts.now a.clauses.now) p b) (entry (rule_of a.h a.counts2.now a.clauses2.now) p b)))) (sym e)
    ∙ c.loop-q.invariant)
