-- `hoa_write::write_hoa` meets its contract: what the reader answers, then the writer under the rule that was read.
use Rattle.std.proofs.Common.{◌≡◌, sym, ◌∙◌, ap, Err, arith, rules}
use Rattle.theory.specs.Rule.{Rule}
use Rattle.file_read.proofs.Answer.{served, served-letters, turned-away}
use Rattle.table_judge.proofs.Answers.{initial-low}
use Rattle.hoa_write.proofs.Rows.{accepted, refused}
use Rattle.hoa_write.proofs.write_hoa.Goals as goal

pub returns-in_err-l : goal.returns-in_err-l
returns-in_err-l c =
    let e : c.from_residual.result ≡ Err c.in_err-l.field-0.0 = search rules in
    let r = refused _ _ _ _ c.args.text.now (turned-away _ _ (sym c.read_rule.ensures ∙ c.in_err-l.was)).0 in
    record { value = e ∙ r.0; text_after = r.1 }

pub overflow_cast-l : goal.overflow_cast-l
overflow_cast-l c = omega (arith, initial-low _ _ (served _ _ (sym c.read_rule.ensures ∙ c.in_ok-l.was)))

pub write_read-requires : goal.write_read-requires
write_read-requires c =
    let o = sym c.read_rule.ensures ∙ c.in_ok-l.was in (served-letters _ _ o, initial-low _ _ (served _ _ o))

pub returns : goal.returns
returns c =
    let v = served _ _ (sym c.read_rule.ensures ∙ c.in_ok-l.was) in
    let r = accepted _ _ _ c.args.text.now _ _ v.row (rw (ap (λ (r : Rule). r.s) v.rule, ap (λ (r : Rule). r.initial) v.rule) at c.write_read.ensures) in
    record { value = r.0; text_after = r.1 }
