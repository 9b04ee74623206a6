-- `judge_choices` meets its contract: what the reader answers, then the judge of the rule that was read.
use Rattle.std.proofs.Common.{◌≡◌, sym, ◌∙◌, rules}
use Rattle.std.specs.Prelude.{Err}
use Rattle.file_read.proofs.Answer.{served, lent-rule, lent-passing, turned-away}
use Rattle.judge_choices.proofs.Calls.{judged-refused, judged-called}
use Rattle.judge_choices.proofs.judge_choices.Goals as goal

pub returns-in_err-l : goal.returns-in_err-l
returns-in_err-l c =
    let e : c.from_residual.result ≡ Err c.in_err-l.field-0.0 = search rules in
    rw e (judged-refused _ _ _ _ c.args.masks.now _ c.args.choices.now _ (turned-away _ _ (sym c.read_rule.ensures ∙ c.in_err-l.was)).0)

pub judge_choices_read-requires : goal.judge_choices_read-requires
judge_choices_read-requires c = lent-passing _ _ (sym c.read_rule.ensures ∙ c.in_ok-l.was) _ _ c.counts_of.ensures c.clauses_of.ensures

pub returns : goal.returns
returns c =
    let e = sym c.read_rule.ensures ∙ c.in_ok-l.was in
    judged-called c.args.file.now c.args.lead.now c.args.cycle.now c.args.masks.now _ c.args.choices.now _ _ (served _ _ e).row
    (rw (lent-rule _ _ e _ _ c.counts_of.ensures c.clauses_of.ensures) at c.judge_choices_read.ensures)
