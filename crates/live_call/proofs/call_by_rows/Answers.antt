-- `call_by_rows` meets its contract: the rows, then the call.
use Rattle.std.proofs.Common.{◌≡◌, length, refl, sym, ◌∙◌, rules}
use Rattle.std.specs.Prelude.{Err}
use Rattle.live_call.proofs.Served.{ready, fits, call-passed, refused-by, served-by}
use Rattle.live_call.proofs.call_by_rows.Goals as goal

pub returns-in_err-call_row : goal.returns-in_err-call_row
returns-in_err-call_row c =
    let e : c.from_residual.result ≡ Err c.in_err-call_row.field-0.0 = search rules in
    rw e (refused-by _ (sym c.call_row.ensures ∙ c.in_err-call_row.was) refl)

pub serve-requires : goal.serve-requires
serve-requires c =
    let e = sym c.call_row.ensures ∙ c.in_ok-call_row.was in let a = c.args in let room = length a.set.now in (
      c.requires.0,
      ready a.call a.h.s a.codes.now a.transitions.now a.state.now room e,
      call-passed a.call a.h.s a.codes.now a.transitions.now a.state.now room e c.requires.1,
      fits a.call a.h.s a.codes.now a.transitions.now a.state.now room e,
    )

pub returns : goal.returns
returns c = served-by (sym c.call_row.ensures ∙ c.in_ok-call_row.was) refl c.serve.ensures
