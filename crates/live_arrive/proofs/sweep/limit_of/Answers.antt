-- `limit_of` meets its contract: the letter that arrives, those that are none, and the others.
use Rattle.std.proofs.Common.{sym, arith}
use Rattle.live_arrive.proofs.Turns.{limit-same, limit-high, limit-other}
use Rattle.live_arrive.proofs.sweep.limit_of.Goals as goal

pub returns-then-l-letter : goal.returns-then-l-letter
returns-then-l-letter c = let a = c.args in sym (limit-same a.s a.n a.letter a.l c.if-l-letter.true)

pub returns-then-s-l : goal.returns-then-s-l
returns-then-s-l c = let a = c.args in sym (limit-high a.s a.n a.letter a.l (omega arith))

pub returns : goal.returns
returns c = let a = c.args in sym (limit-other a.s a.n a.letter a.l c.if-l-letter.false (omega arith))
