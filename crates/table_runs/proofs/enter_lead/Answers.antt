-- `enter_lead` meets its contract: the place before p is done, since the one behind it is.
use Rattle.std.proofs.Common.{◌≡◌, ◌-◌, arith}
use Prim.Native.Nat.{suc}
use Rattle.table_lent.specs.Lent.{in_both}
use Rattle.table_runs.proofs.Entering.{turn}
use Rattle.table_runs.proofs.enter_lead.Goals as goal

pub loop-p-preserved : goal.loop-p-preserved
loop-p-preserved c =
    let l = c.loop-p in let z = c.requires in let e : suc (l.p - 1) ≡ l.p = omega arith in
    rw c.enter_all.ensures (turn c.args.n c.args.lead.now (in_both c.args.moves.now c.args.movebytes.now).numbers c.args.marks.now z.0 z.1 (l.p - 1) l.marks (omega arith) (rw e l.invariant))
