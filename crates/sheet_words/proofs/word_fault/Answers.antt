-- `word_fault` meets its contract: a lone length byte, a word cut off, or the rows of a word that is all there.
use Rattle.std.proofs.Common.{◌≡◌, ℕ, ◌+◌, ◌-◌, ◌≤◌, ◌<◌, length, take, drop, sym, ap, ◌∙◌, arith}
use Rattle.refusals.specs.Rows.{row_of}
use Rattle.refusals.proofs.Rows.{row-refusal}
use Rattle.word_rows.specs.Words.{word_rows_lem, word_row_lem}
use Rattle.sheet_words.specs.Places.{lead_at, cycle_at}
use Rattle.sheet_words.proofs.Places.{lone-fault, cut-fault, cut-no-cycle, whole-fault}
use Rattle.sheet_words.proofs.word_fault.Goals as goal

pub returns-then-end-at-lt2 : goal.returns-then-end-at-lt2
returns-then-end-at-lt2 c = sym (lone-fault c.args.sheet.now c.args.at c.args.s (omega arith))

pub returns-then-cycle-eq0 : goal.returns-then-cycle-eq0
returns-then-cycle-eq0 c = sym (cut-no-cycle c.args.sheet.now c.args.at (omega arith) c.args.s c.if-cycle-eq0.true)

pub returns-then-end-at : goal.returns-then-end-at
returns-then-end-at c =
    sym (cut-fault c.args.sheet.now c.args.at (omega arith) c.args.s (omega (arith, c.if-end-at.true)) (omega (arith, c.if-cycle-eq0.false)))

pub returns : goal.returns
unfolding word_row_lem
returns c =
    let a = c.args in
    let h : a.at + 2 + (lead_at a.sheet.now a.at + cycle_at a.sheet.now a.at) ≤ length a.sheet.now = omega (arith, c.if-end-at.false) in
    let lead : a.at + 2 + lead_at a.sheet.now a.at - (a.at + 2) ≡ lead_at a.sheet.now a.at = omega arith in
    let cycle : a.at + 2 + lead_at a.sheet.now a.at + cycle_at a.sheet.now a.at - (a.at + 2 + lead_at a.sheet.now a.at) ≡ cycle_at a.sheet.now a.at = omega arith in
    let two : a.at + 1 < length a.sheet.now = omega arith in
    ap row_of c.word_row.ensures ∙ row-refusal _ ∙ sym (whole-fault a.sheet.now a.at two a.s _ _ h
    (ap (λ (n : ℕ). take n (drop (a.at + 2) a.sheet.now)) lead) (ap (λ (n : ℕ). take n (drop (a.at + 2 + lead_at a.sheet.now a.at) a.sheet.now)) cycle))
