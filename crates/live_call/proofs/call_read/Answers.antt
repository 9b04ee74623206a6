-- `call_read` meets its contract: an arrival that was made or refused at once, or the rows and the call.
use Rattle.std.proofs.Common.{length, arith}
use Rattle.live_call.proofs.Served.{ready, fits, refused-by, served-by, row-passed, row-table}
use Rattle.live_call.proofs.call_read.Goals as goal

pub count-requires : goal.count-requires
count-requires c =
    let a = c.args in let room = length a.set.now in let t = c.try_quickly in let e = row-passed _ _ _ _ _ _ (t.ensures.served c.in-Served.is) in
    let R = ready a.call a.h.s a.codes.now a.transitions.now a.state.now room e in (
      omega (arith, R.few, R.long, t.auto),
      fits a.call a.h.s a.codes.now a.transitions.now a.state.now room e,
    )

pub returns-in-Served : goal.returns-in-Served
returns-in-Served c = let t = c.try_quickly.ensures in let told = c.in-Served.is in served-by (row-passed _ _ _ _ _ _ (t.served told)) (t.made told c.args.h.initial) c.count.ensures

pub returns-in-Refused : goal.returns-in-Refused
returns-in-Refused c = let t = c.try_quickly.ensures in let told = c.in-Refused.is in refused-by _ (row-table _ _ _ _ _ _ (t.refused told)) (t.taken_back told)

pub returns-in-Untried : goal.returns-in-Untried
returns-in-Untried c = rw (c.try_quickly.ensures.untried c.in-Untried.is) at c.call_by_rows.ensures
