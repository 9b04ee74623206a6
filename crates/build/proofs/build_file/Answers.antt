-- `build_file` meets its contract: the rule's rows by the reader, then the table of the file's rule.
use Rattle.std.proofs.Common.{◌≡◌, sym, Err, rules}
use Rattle.file_read.proofs.Answer.{turned-away}
use Rattle.build.proofs.Answer.{filled-refused, filled-served}
use Rattle.build_spec.specs.Keys.{start_of}
use Rattle.build.proofs.build_file.Goals as goal

pub returns-in_err-l : goal.returns-in_err-l
returns-in_err-l c =
    let a = c.args in
    let e : c.from_residual.result ≡ Err c.in_err-l.field-0.0 = search rules in
    let t = turned-away a.file.now c.in_err-l.field-0.0 (sym c.in_err-l.ensures) in
    rw e (filled-refused (λ r. start_of r a.holds) a.file.now a.codes.now a.transitions.now c.in_err-l.field-0.0 (t.1, t.2))

pub returns : goal.returns
returns c =
    let a = c.args in
    filled-served (λ r. start_of r a.holds) a.file.now _ (sym c.in_ok-l.ensures) a.codes.now a.transitions.now c.build_accepted.result _ _ c.build_accepted.ensures
