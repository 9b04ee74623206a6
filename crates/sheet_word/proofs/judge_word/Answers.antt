-- `judge_word` meets its contract: a faulty word has its number and zeros, another its masks and the verdict of the first.
use Rattle.std.proofs.Common.{◌≡◌, ℕ, true, false, sym, ap, ◌∙◌, arith}
use Rattle.std.specs.Prelude.{replicate}
use Rattle.refusals.specs.Rows.{number_of, row_of}
use Rattle.refusals.proofs.Rows.{number-above}
use Rattle.sheet_spec.specs.Words.{fault_of}
use Rattle.sheet_words.specs.Places.{word_from}
use Rattle.sheet_word.proofs.Serve.{word_at}
use Rattle.sheet_word.proofs.Word.{judged-faulty, judged-served}
use Rattle.sheet_word.proofs.judge_word.Goals as goal

pub returns-in-Err : goal.returns-in-Err
returns-in-Err c =
    let faulty : number_of c.in-Err.fault ≡ fault_of c.args.rule.head.s (word_from c.args.sheet.now c.args.next.at) = sym (ap row_of c.in-Err.is) ∙ c.word_fault.ensures in
    let some = number-above c.in-Err.fault in
    rw c.row.ensures (judged-faulty (number_of c.in-Err.fault) (λ z. omega arith) faulty c.requires.0.cycles (c.fill_with.ensures ∙ ap (λ (n : ℕ). replicate n 0) c.requires.2))

pub returns-then-contains : goal.returns-then-contains
returns-then-contains c =
    let sound : fault_of c.args.rule.head.s (word_from c.args.sheet.now c.args.next.at) ≡ 0 = sym c.word_fault.ensures ∙ ap row_of c.in_default.is in
    judged-served sound c.serve_word-cycles.ensures (word_at _ _ _ c.requires.1 sound).repeats true (sym c.contains.ensures ∙ c.if-contains.true)

pub returns : goal.returns
returns c =
    let sound : fault_of c.args.rule.head.s (word_from c.args.sheet.now c.args.next.at) ≡ 0 = sym c.word_fault.ensures ∙ ap row_of c.in_default.is in
    judged-served sound c.serve_word-cycles.ensures (word_at _ _ _ c.requires.1 sound).repeats false (sym c.contains.ensures ∙ c.if-contains.false)
