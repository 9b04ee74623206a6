-- `follow` meets its contract: what the reader answers, then the call for the rule.
use Rattle.std.proofs.Common.{◌≡◌, sym, ◌∙◌, rules}
use Rattle.std.specs.Prelude.{Err}
use Rattle.file_read.proofs.Answer.{served, turned-away}
use Rattle.follow_call.proofs.Served.{call-refused, call-served}
use Rattle.follow_call.proofs.follow.Goals as goal

pub returns-in_err-l : goal.returns-in_err-l
returns-in_err-l c =
    let e : c.from_residual.result ≡ Err c.in_err-l.field-0.0 = search rules in
    rw e (call-refused _ _ _ _ _ _ (turned-away _ _ (sym c.read_rule.ensures ∙ c.in_err-l.was)).0)

pub returns : goal.returns
returns c = call-served _ _ _ _ _ _ _ _ (served _ _ (sym c.read_rule.ensures ∙ c.in_ok-l.was)) c.follow_read.ensures
