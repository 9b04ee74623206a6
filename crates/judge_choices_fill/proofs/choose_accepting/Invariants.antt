-- `choose_accepting` meets its contract: the places before p have the choices of their accepting states.
use Rattle.theory.specs.Truth.{truth_masks}
use Rattle.rule_entries.specs.Entries.{rule_of}
use Rattle.judge_choices_spec.specs.Rounds.{Started}
use Rattle.judge_choices_fill.proofs.choose_accepting.Given as goal

abbrev pub invariant-loop-p : goal.invariant-loop-p
invariant-loop-p l = let r = rule_of l.rule.head l.counts l.clauses in Started r l.lead l.cycle (truth_masks r l.lead l.cycle) l.p l.fn.choices l.choices
