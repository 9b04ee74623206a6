-- `same_state` meets its contract: what the walks over the clauses say of the entries at each letter.
use Rattle.std.proofs.Common.{refl, sym, ◌∙◌}
use Rattle.sets.specs.Tests.{every}
use Rattle.sets.proofs.Tests.{every-next, every-stop}
use Rattle.rule_entries.specs.Entries.{rule_of}
use Rattle.rule_same.proofs.Same.{entries-told}
use Rattle.rule_same.proofs.entries.same_state.Goals as goal

pub loop-a-init : goal.loop-a-init
unfolding every
loop-a-init c = refl

pub loop-a-preserved : goal.loop-a-preserved
loop-a-preserved c = let a = c.args in let p = c.requires in every-next c.loop-a.a _ c.loop-a.invariant
    (sym (entries-told (rule_of a.h a.counts.now a.clauses.now) (rule_of a.h a.counts2.now a.clauses2.now) p.0 p.1 refl refl a.q c.loop-a.a p.2 c.loop-a-test.true
    c.same_entry.ensures c.entry_of.ensures c.entry_of-in-loop-a.ensures) ∙ c.if-not-same_entry.false)

pub returns-then-not-same_entry : goal.returns-then-not-same_entry
returns-then-not-same_entry c = let a = c.args in let p = c.requires in sym (every-stop a.h.s _ c.loop-a.a c.loop-a-test.true
    (sym (entries-told (rule_of a.h a.counts.now a.clauses.now) (rule_of a.h a.counts2.now a.clauses2.now) p.0 p.1 refl refl a.q c.loop-a.a p.2 c.loop-a-test.true
    c.same_entry.ensures c.entry_of.ensures c.entry_of-in-loop-a.ensures) ∙ c.if-not-same_entry.true))
