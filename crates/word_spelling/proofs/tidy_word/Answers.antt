-- `tidy_word` meets its contract: rows 12 and 13, then the slice, then the letters.
use Rattle.std.proofs.Common.{◌≡◌, ◌+◌, ◌<◌, ◌≤◌, length, sym, ◌∙◌, arith, rules}
use Rattle.std.specs.Prelude.{Err}
use Rattle.word_rows.proofs.Checks.{short-passed}
use Rattle.word_spelling_spec.specs.SpellingComputed.{lead_length_lem, cycle_length_lem}
use Rattle.word_spelling_spec.proofs.Tidied.{cycle-max}
use Rattle.word_spelling.proofs.Answers.{Found, found, word-refused, slice-refused, served}
use Rattle.word_spelling.proofs.tidy_word.Goals as goal

pub returns-in_err-length_row : goal.returns-in_err-length_row
returns-in_err-length_row c =
    let e : c.from_residual.result ≡ Err c.in_err-length_row.field-0.0 = search rules in
    rw e (word-refused _ _ _ _ (sym c.length_row.ensures ∙ c.in_err-length_row.was))

pub cycle_length-p-requires : goal.cycle_length-p-requires
cycle_length-p-requires c = (short-passed _ _ (sym c.length_row.ensures ∙ c.in_ok-length_row.was)).repeats

pub lead_length-m-requires : goal.lead_length-m-requires
lead_length-m-requires c =
    let s = short-passed _ _ (sym c.length_row.ensures ∙ c.in_ok-length_row.was) in
    let most : c.cycle_length-p.result ≤ length c.args.cycle.now = rw c.cycle_length-p.ensures (cycle-max c.args.lead.now c.args.cycle.now s.repeats) in
    (s.repeats, most, omega (arith, s.lead-short, s.cycle-short))

pub overflow_add-m : goal.overflow_add-m
overflow_add-m c = let f = found _ _ _ _ (sym c.length_row.ensures ∙ c.in_ok-length_row.was) c.cycle_length-p.ensures c.lead_length-m.ensures in omega (arith, f)

pub returns-then-out-m : goal.returns-then-out-m
returns-then-out-m c =
    let f = found _ _ _ _ (sym c.length_row.ensures ∙ c.in_ok-length_row.was) c.cycle_length-p.ensures c.lead_length-m.ensures in
    slice-refused _ _ _ f.passed (omega (arith, f, c.if-out-m.true))

pub write_letters-requires : goal.write_letters-requires
write_letters-requires c =
    let f = found _ _ _ _ (sym c.length_row.ensures ∙ c.in_ok-length_row.was) c.cycle_length-p.ensures c.lead_length-m.ensures in
    (omega (arith, f), omega (arith, c.if-out-m.false))

pub returns : goal.returns
returns c =
    let f = found _ _ _ _ (sym c.length_row.ensures ∙ c.in_ok-length_row.was) c.cycle_length-p.ensures c.lead_length-m.ensures in
    served _ _ _ f.passed _ _ _ f.lead f.cycle (omega (arith, c.if-out-m.false)) c.write_letters.ensures
