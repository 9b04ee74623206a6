-- `stricter` meets its contract: the rows of both rules by the reader, then the comparison of the rules.
use Rattle.std.proofs.Common.{◌≡◌, sym, ◌∙◌, Err, rules}
use Rattle.file_read.proofs.Answer.{served, turned-away}
use Rattle.stricter_entry_spec.specs.Rows.{Slices, slices_of}
use Rattle.stricter.proofs.Files.{first-refused, second-refused, both_read}
use Rattle.stricter.proofs.stricter.Goals as goal

pub returns-in_err-l : goal.returns-in_err-l
returns-in_err-l c =
    let a = c.args in let lent : Slices = slices_of a.acodes.now a.atransitions.now a.bcodes.now a.btransitions.now a.word.now a.scratch.now in
    let e : c.from_residual.result ≡ Err c.in_err-l.field-0.0 = search rules in
    rw e (first-refused a.a.now a.b.now lent (turned-away a.a.now _ (sym c.read_rule.ensures ∙ c.in_err-l.was)))

pub returns-in_err-m : goal.returns-in_err-m
returns-in_err-m c =
    let a = c.args in let lent : Slices = slices_of a.acodes.now a.atransitions.now a.bcodes.now a.btransitions.now a.word.now a.scratch.now in
    let e : c.from_residual-in_err-m.result ≡ Err c.in_err-m.field-0.0 = search rules in
    rw e (second-refused a.a.now a.b.now lent (served a.a.now _ (sym c.read_rule.ensures ∙ c.in_ok-l.was)).row (turned-away a.b.now _ (sym c.read_rule-2.ensures ∙ c.in_err-m.was)))

pub returns : goal.returns
returns c =
    let a = c.args in let lent : Slices = slices_of a.acodes.now a.atransitions.now a.bcodes.now a.btransitions.now a.word.now a.scratch.now in
    both_read a.a.now a.b.now lent (served a.a.now _ (sym c.read_rule.ensures ∙ c.in_ok-l.was)).row (served a.b.now _ (sym c.read_rule-2.ensures ∙ c.in_ok-m.was)).row
    c.compare_files.result _ c.compare_files.ensures
