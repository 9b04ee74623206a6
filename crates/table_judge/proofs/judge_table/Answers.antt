-- `judge_table` meets its contract: what the reader answers, then the judge on the table that is lent.
use Rattle.std.proofs.Common.{sym, ◌∙◌}
use Rattle.table_lent.proofs.Reading.{both_words}
use Rattle.file_read.proofs.Answer.{served, turned-away}
use Rattle.table_judge.proofs.Answers.{judged-refused, judged-called, initial-low}
use Rattle.table_judge.proofs.judge_table.Goals as goal

pub returns-in-Err : goal.returns-in-Err
returns-in-Err c = judged-refused _ (turned-away _ _ (sym c.read_rule.ensures ∙ c.in-Err.is)).0

pub judge_lent-requires : goal.judge_lent-requires
judge_lent-requires c = initial-low _ _ (served _ _ (sym c.read_rule.ensures ∙ c.in-Ok.is))

pub returns-in-Ok : goal.returns-in-Ok
returns-in-Ok c =
    judged-called (served _ _ (sym c.read_rule.ensures ∙ c.in-Ok.is)) (rw (both_words c.args.codes.now, both_words c.args.transitions.now) at c.judge_lent.ensures)
