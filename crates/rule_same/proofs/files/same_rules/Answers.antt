-- `rule_same::files::same_rules` meets its contract: what refuses the first file, then the second, then the comparison.
use Rattle.std.proofs.Common.{◌≡◌, ◌++◌, sym, ◌∙◌, ap, Ok, Err, rules}
use Rattle.refusals.proofs.Rows.{refusal-left, refusal-right, refusal-passes, answer-refused}
use Rattle.file_spec.specs.Rows.{file_rows_lem, file_row}
use Rattle.file_read.proofs.Answer.{served, turned-away}
use Rattle.rule_same.specs.Same.{same_rules_of, same_files_lem}
use Rattle.rule_same.proofs.Same.{served-both}
use Rattle.rule_same.proofs.files.same_rules.Goals as goal

pub returns-in_err-l : goal.returns-in_err-l
unfolding same_rules_of
returns-in_err-l c =
    let f = c.args.first.now in
    let g = c.args.second.now in
    let e : c.from_residual.result ≡ Err c.in_err-l.field-0.0 = search rules in
    e ∙ sym (answer-refused (file_rows_lem f ++ file_rows_lem g) (same_files_lem f g) _ (refusal-left (file_rows_lem f) (file_rows_lem g) _ (turned-away f _ (sym c.in_err-l.ensures)).0))

pub returns-in_err-m : goal.returns-in_err-m
unfolding same_rules_of file_row
returns-in_err-m c =
    let f = c.args.first.now in
    let g = c.args.second.now in
    let e : c.from_residual-in_err-m.result ≡ Err c.in_err-m.field-0.0 = search rules in
    let p = refusal-passes (file_rows_lem f) (served f _ (sym c.in_ok-l.ensures)).row in
    e ∙ sym (answer-refused (file_rows_lem f ++ file_rows_lem g) (same_files_lem f g) _ (refusal-right (file_rows_lem f) (file_rows_lem g) p ∙ (turned-away g _ (sym c.in_err-m.ensures)).0))

pub returns : goal.returns
returns c =
    ap Ok c.same_files.ensures ∙ served-both c.args.first.now c.args.second.now (served c.args.first.now _ (sym c.in_ok-l.ensures)).row (served c.args.second.now _ (sym c.in_ok-m.ensures)).row
