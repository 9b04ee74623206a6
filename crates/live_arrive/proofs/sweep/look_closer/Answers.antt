-- `look_closer` meets its contract: another letter, a target out of range, or a transition that is swept.
use Rattle.std.proofs.Common.{arith}
use Rattle.live_arrive.proofs.Turns.{told-target, told-other, told-yes}
use Rattle.live_arrive.proofs.sweep.look_closer.Goals as goal

pub returns-then-letter_of-letter : goal.returns-then-letter_of-letter
returns-then-letter_of-letter c = λ s b l. told-other (λ e. omega arith) l

pub returns-then-set-target_of : goal.returns-then-set-target_of
returns-then-set-target_of c = λ s b l. told-target (omega arith)

pub returns : goal.returns
returns c = λ s b l. told-yes b (omega arith) c.requires (omega arith) c.move_over.ensures
