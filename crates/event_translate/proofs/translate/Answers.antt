-- `event_translate::translate` meets its contract: what the reader answers, then the translation under the rule that was read.
use Rattle.std.proofs.Common.{◌≡◌, sym, ◌∙◌, ap, Err, rules}
use Rattle.file_spec.specs.declared.Layout.{Layout}
use Rattle.file_read.proofs.Answer.{served, turned-away}
use Rattle.event_table.proofs.Rows.{accepted, refused}
use Rattle.event_translate.proofs.translate.Goals as goal

pub returns-in_err-l : goal.returns-in_err-l
returns-in_err-l c =
    let a = c.args in
    let e : c.from_residual.result ≡ Err c.in_err-l.field-0.0 = search rules in
    let r = refused a.file.now a.events.now a.log.now _ a.letters.now (turned-away a.file.now _ (sym c.in_err-l.ensures)).0 in
    record { value = e ∙ r.0; letters_after = r.1 }

pub returns : goal.returns
returns c =
    let a = c.args in
    let v = served a.file.now _ (sym c.in_ok-l.ensures) in
    let r = accepted a.file.now a.events.now a.log.now _ _ _ v.row (rw (ap (λ (x : Layout). x.head.s) v.layout) at c.translate_read.ensures) in
    record { value = r.0; letters_after = r.1 }
