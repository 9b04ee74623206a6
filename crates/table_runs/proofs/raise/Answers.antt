-- `raise` meets its contract: a node more is raised.
use Rattle.std.proofs.Common.{arith}
use Rattle.table_runs.specs.Tracks.{raised}
use Rattle.table_runs.proofs.Flagging.{mark-turn, all-marked}
use Rattle.table_runs.proofs.raise.Goals as goal

pub loop-mark-preserved : goal.loop-mark-preserved
unfolding raised
loop-mark-preserved c = mark-turn _ (omega arith) c.raised_mark.ensures c.loop-mark.invariant

pub returns : goal.returns
unfolding raised
returns c = let r = c.loop-mark.invariant in record { long = r.long; each = all-marked (omega arith) r }
