-- `choose_rejecting` meets its contract: after so many rounds the states of at most that distance have their choices.
use Rattle.std.proofs.Common.{◌≡◌, length}
use Rattle.theory.specs.Truth.{truth_masks}
use Rattle.rule_entries.specs.Entries.{rule_of}
use Rattle.judge_choices_spec.specs.Rounds.{Rounds}
use Rattle.judge_choices_rounds.proofs.choose_rejecting.Given as goal

abbrev pub invariant-loop : goal.invariant-loop
invariant-loop l = let r = rule_of l.rule.head l.counts l.clauses in
    (length l.near ≡ 64) × Rounds r l.lead l.cycle (truth_masks r l.lead l.cycle) l.counter l.near l.work l.fn.choices l.choices
