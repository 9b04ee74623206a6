-- `judge_sheet_read` meets its contract: the row that refuses, or every word judged.
use Rattle.std.proofs.Common.{arith}
use Rattle.sheet_judge.proofs.Calls.{many-words, answers-short, masks-short, sheet-served, called-refused, called-served}
use Rattle.sheet_judge.proofs.judge_sheet_read.Goals as goal

pub returns-then-words-gt64 : goal.returns-then-words-gt64
returns-then-words-gt64 c = called-refused _ (many-words _ _ _ (omega (arith, c.if-words-gt64.true, c.count_words-words.ensures)))

pub returns-then-answers-words : goal.returns-then-answers-words
returns-then-answers-words c =
    let e = c.count_words-words.ensures in
    called-refused _ (answers-short _ _ _ (omega (arith, c.if-words-gt64.false, e)) (omega (arith, c.if-answers-words.true, e)))

pub returns-then-masks-words : goal.returns-then-masks-words
returns-then-masks-words c =
    let e = c.count_words-words.ensures in
    called-refused _ (masks-short _ _ _ (omega (arith, c.if-words-gt64.false, e)) (omega (arith, c.if-answers-words.false, e)) (omega (arith, c.if-masks-words.true, e)))

pub returns : goal.returns
returns c =
    let e = c.count_words-words.ensures in
    called-served (sheet-served _ _ _ (omega (arith, c.if-words-gt64.false, e)) (omega (arith, c.if-answers-words.false, e)) (omega (arith, c.if-masks-words.false, e)))
    e c.judge_words-cycles.ensures
