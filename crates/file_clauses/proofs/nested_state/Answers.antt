-- `nested_state` meets its contract: the entry at each letter, over n states.
use Rattle.std.proofs.Common.{refl, arith}
use Rattle.sets.specs.Tests.{some_below}
use Rattle.rule_entries.specs.Entries.{rule_of}
use Rattle.file_spec.proofs.Walks.{some_next, some_end, some-stop}
use Rattle.file_clauses.proofs.Nested.{nested-at}
use Rattle.file_clauses.proofs.nested_state.Goals as goal

pub loop-a-init : goal.loop-a-init
unfolding some_below
loop-a-init c = refl

pub loop-a-preserved : goal.loop-a-preserved
loop-a-preserved c = let a = c.args in some_next _ _ c.loop-a.invariant
    (nested-at (rule_of a.h a.counts.now a.clauses.now) c.requires.0 a.q c.loop-a.a _ _ _ c.requires.1 c.loop-a-test.true c.entry_of.ensures c.is_nested.ensures c.if-is_nested.false)

pub returns-then-is_nested : goal.returns-then-is_nested
returns-then-is_nested c = let a = c.args in some-stop _ _ c.loop-a.a c.loop-a-test.true
    (nested-at (rule_of a.h a.counts.now a.clauses.now) c.requires.0 a.q c.loop-a.a _ _ _ c.requires.1 c.loop-a-test.true c.entry_of.ensures c.is_nested.ensures c.if-is_nested.true)

pub returns : goal.returns
returns c = some_end c.loop-a.a _ _ (omega arith) c.loop-a.invariant
