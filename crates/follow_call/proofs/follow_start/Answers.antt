-- `follow_start` meets its contract: what the reader answers, then the call for the rule.
use Rattle.std.proofs.Common.{◌≡◌, sym, ◌∙◌, rules}
use Rattle.std.specs.Prelude.{Err}
use Rattle.file_read.proofs.Answer.{served, turned-away}
use Rattle.follow_call.proofs.Served.{start-refused, start-served, head-low}
use Rattle.follow_call.proofs.follow_start.Goals as goal

pub returns-in_err-l : goal.returns-in_err-l
returns-in_err-l c =
    let e : c.from_residual.result ≡ Err c.in_err-l.field-0.0 = search rules in
    rw e (start-refused _ _ _ _ _ (turned-away _ _ (sym c.read_rule.ensures ∙ c.in_err-l.was)).0)

pub start_read-requires : goal.start_read-requires
start_read-requires c = head-low _ _ (served _ _ (sym c.read_rule.ensures ∙ c.in_ok-l.was))

pub returns : goal.returns
returns c = start-served _ _ _ _ _ _ _ (served _ _ (sym c.read_rule.ensures ∙ c.in_ok-l.was)) c.start_read.ensures
