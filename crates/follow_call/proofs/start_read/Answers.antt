-- `start_read` meets its contract: the rows, then the start.
use Rattle.std.proofs.Common.{◌≡◌, [], length, sym, ◌∙◌, arith, rules}
use Rattle.std.specs.Prelude.{Err}
use Rattle.follow_call.proofs.Served.{fits, refused-by, served-by}
use Rattle.follow_call.proofs.start_read.Goals as goal

pub returns-in_err-call_row : goal.returns-in_err-call_row
returns-in_err-call_row c =
    let e : c.from_residual.result ≡ Err c.in_err-call_row.field-0.0 = search rules in
    rw e (refused-by _ (sym c.call_row.ensures ∙ c.in_err-call_row.was))

pub begin-requires : goal.begin-requires
begin-requires c =
    (omega (arith, c.requires), fits c.args.h.s [] c.args.codes.now c.args.transitions.now (length c.args.set.now) (sym c.call_row.ensures ∙ c.in_ok-call_row.was))

pub returns : goal.returns
returns c = served-by (sym c.call_row.ensures ∙ c.in_ok-call_row.was) c.begin.ensures
