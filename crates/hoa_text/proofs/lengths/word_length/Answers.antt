-- `word_length` meets its contract: each number of digits has its own case.
use Rattle.std.proofs.Common.{arith}
use Rattle.hoa_text.proofs.Counts.{word-one, word_more}
use Rattle.hoa_text.proofs.lengths.word_length.Goals as goal

pub returns-then-x-lt10 : goal.returns-then-x-lt10
returns-then-x-lt10 c = word-one c.args.x c.if-x-lt10.true

pub returns-then-x-lt100 : goal.returns-then-x-lt100
returns-then-x-lt100 c = word_more 1 c.args.x c.if-x-lt10.false c.if-x-lt100.true

pub returns-then-x-lt1000 : goal.returns-then-x-lt1000
returns-then-x-lt1000 c = word_more 2 c.args.x c.if-x-lt100.false c.if-x-lt1000.true

pub returns-then-x-lt10000 : goal.returns-then-x-lt10000
returns-then-x-lt10000 c = word_more 3 c.args.x c.if-x-lt1000.false c.if-x-lt10000.true

pub returns : goal.returns
returns c = word_more 4 c.args.x c.if-x-lt10000.false (omega arith)
