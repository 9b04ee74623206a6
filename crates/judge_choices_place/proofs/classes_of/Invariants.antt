-- `classes_of` meets its contract: the masks of the states before q.
use Rattle.std.proofs.Common.{◌≡◌, ℕ, ◌<◌, eqb, length, get_or}
use Rattle.sets.specs.Masks.{mask}
use Rattle.theory.specs.Components.{component}
use Rattle.rule_entries.specs.Entries.{rule_of}
use Rattle.judge_choices_place.proofs.classes_of.Given as goal

abbrev pub invariant-loop-q : goal.invariant-loop-q
invariant-loop-q l = (length l.classes ≡ 8)
    × ((p : ℕ) → p < l.q → get_or l.classes p 0 ≡ mask l.h.n (λ x. eqb (component (rule_of l.h l.counts l.clauses) x) (component (rule_of l.h l.counts l.clauses) p)))
