-- `table_runs::raised_mark` meets its contract.
use mathlib.Core.Path.{◌≡◌}
use native.Mathlib.Omega.{arith}
use Rattle.table_runs.proofs.Thinning.{raised-out, raised-in}
use Rattle.table_runs.proofs.raised_mark.Statement.{statement}
use Rattle.table_runs.proofs.raised_mark.Tie as tie

pub raised_mark_spec : {M : Type 1} → statement M
raised_mark_spec = tie.close (tie.spec
    (λ c. let v = c.before.args.v in let out : v ≡ 0 = omega arith in raised-out v out) (λ c. raised-in c.before.args.v c.if-v-eq0.false))
