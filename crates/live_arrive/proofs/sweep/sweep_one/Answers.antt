-- `sweep_one` meets its contract: a target below the limit is in range, and no more is asked.
use Rattle.std.proofs.Common.{arith}
use Rattle.live_arrive.proofs.Turns.{told-quickly}
use Rattle.live_arrive.proofs.sweep.sweep_one.Goals as goal

pub returns-then-target_of-limit : goal.returns-then-target_of-limit
returns-then-target_of-limit c = λ s b e. told-quickly e c.requires (omega arith)

pub returns : goal.returns
returns c = λ s b e. c.look_closer.ensures s b (omega arith)
