-- `move_over` meets its contract: the transition is over another letter, or from a source not in the set, or its target enters.
use Rattle.std.proofs.Common.{arith, sym}
use Rattle.live_set.proofs.Sets.{moved_other, moved_none, moved-yes}
use Rattle.live_set.proofs.move_over.Goals as goal

pub returns-then-letter_of-letter : goal.returns-then-letter_of-letter
returns-then-letter_of-letter c = moved_other c.args.letter c.args.t c.args.set.now (λ e. omega arith)

pub returns-then-set-source_of-eq0 : goal.returns-then-set-source_of-eq0
returns-then-set-source_of-eq0 c = moved_none c.args.letter c.args.t c.args.set.now (omega arith) (rw (sym c.source_of.ensures) c.if-set-source_of-eq0.true)

pub returns : goal.returns
returns c = rw c.target_of-y.ensures (moved-yes c.args.letter c.args.t c.args.set.now (omega arith) (λ z. c.if-set-source_of-eq0.false (rw c.source_of.ensures z)))
