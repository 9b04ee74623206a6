-- `judge_choices_place::choose` meets its contract: an entry has few clauses, so that a clause's number is a byte.
use Rattle.std.proofs.Common.{arith, rules, sym, ◌∙◌}
use Rattle.theory.specs.Rule.{entry}
use Rattle.rule_entries.specs.Entries.{rule_of}
use Rattle.judge_choices_spec.specs.Rounds.{put_met}
use Rattle.judge_choices_place.proofs.Tries.{entry-few, clause-listed}
use Rattle.judge_choices_place.proofs.choose.Goals as goal

pub overflow_cast-choices : goal.overflow_cast-choices
overflow_cast-choices c =
    let a = c.args in let p = c.requires in let r = rule_of a.h a.counts.now a.clauses.now in
    let l = clause-listed a.set (entry r a.q a.a) c.in-Some.j (sym c.met_at.ensures ∙ c.in-Some.is) in omega (arith, l, entry-few r p.0 a.q a.a p.2 p.3)

pub returns-in-Some : goal.returns-in-Some
unfolding put_met
returns-in-Some c = rw (sym c.met_at.ensures ∙ c.in-Some.is) (search rules)

pub returns-in-None : goal.returns-in-None
unfolding put_met
returns-in-None c = rw (sym c.met_at.ensures ∙ c.in-None.is) (search rules)
