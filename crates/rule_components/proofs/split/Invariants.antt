-- `split` meets its contract: the components whose smallest states are below q.
use Rattle.std.proofs.Common.{◌≡◌, eqb}
use Rattle.sets.specs.Tests.{count}
use Rattle.sets.specs.Masks.{mask}
use Rattle.theory.specs.Components.{component, is_smallest}
use Rattle.rule_entries.specs.Entries.{rule_of}
use Rattle.rule_reach.specs.Tables.{table}
use Rattle.rule_components.proofs.split.Given as goal

abbrev pub invariant-loop-q : goal.invariant-loop-q
invariant-loop-q l = (l.count ≡ count l.q (is_smallest (rule_of l.h l.counts l.clauses)))
    × (l.masks ≡ table l.count (λ k. mask l.h.n (λ p. eqb (component (rule_of l.h l.counts l.clauses) p) k)))
