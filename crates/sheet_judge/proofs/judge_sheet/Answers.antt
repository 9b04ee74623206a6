-- `judge_sheet` meets its contract: what the reader answers, then the judge of a sheet on the rule that was read.
use Rattle.std.proofs.Common.{◌≡◌, sym, ◌∙◌, rules}
use Rattle.std.specs.Prelude.{Err}
use Rattle.file_read.proofs.Answer.{served, lent-rule, lent-passing, turned-away}
use Rattle.sheet_judge.proofs.Calls.{judged-refused, judged-called}
use Rattle.sheet_judge.proofs.judge_sheet.Goals as goal

pub returns-in_err-l : goal.returns-in_err-l
returns-in_err-l c =
    let e : c.from_residual.result ≡ Err c.in_err-l.field-0.0 = search rules in
    rw e (judged-refused _ (turned-away _ _ (sym c.read_rule.ensures ∙ c.in_err-l.was)).0)

pub judge_sheet_read-requires : goal.judge_sheet_read-requires
judge_sheet_read-requires c = lent-passing _ _ (sym c.read_rule.ensures ∙ c.in_ok-l.was) _ _ c.counts_of.ensures c.clauses_of.ensures

pub returns : goal.returns
returns c =
    let e = sym c.read_rule.ensures ∙ c.in_ok-l.was in
    judged-called (served _ _ e).row (rw (lent-rule _ _ e _ _ c.counts_of.ensures c.clauses_of.ensures) at c.judge_sheet_read.ensures)
