-- `same_words` meets its contract: the first word's rows come first, then the second's.
use Rattle.std.proofs.Common.{◌≡◌, sym, ◌∙◌, arith, rules}
use Rattle.std.specs.Prelude.{Err}
use Rattle.word_rows.proofs.Checks.{short-passed}
use Rattle.word_same.proofs.Sameness.{first-refused, second-refused, told}
use Rattle.word_same.proofs.same_words.Goals as goal

pub returns-in_err-length_row : goal.returns-in_err-length_row
returns-in_err-length_row c =
    let e : c.from_residual.result ≡ Err c.in_err-length_row.field-0.0 = search rules in
    rw e (first-refused _ _ _ _ _ (sym c.length_row.ensures ∙ c.in_err-length_row.was))

pub returns-in_err-length_row-2 : goal.returns-in_err-length_row-2
returns-in_err-length_row-2 c =
    let e : c.from_residual-in_err-length_row-2.result ≡ Err c.in_err-length_row-2.field-0.0 = search rules in
    rw e (second-refused _ _ _ _ _ (sym c.length_row.ensures ∙ c.in_ok-length_row.was) (sym c.length_row-2.ensures ∙ c.in_err-length_row-2.was))

pub agree-requires : goal.agree-requires
agree-requires c =
    let s = short-passed _ _ (sym c.length_row.ensures ∙ c.in_ok-length_row.was) in
    let t = short-passed _ _ (sym c.length_row-2.ensures ∙ c.in_ok-length_row-2.was) in
    record { cycle1_nonzero = (s.repeats, t.repeats); cycle2_bound = omega (arith, s, t) }

pub returns : goal.returns
returns c =
    rw c.agree.ensures (told _ _ _ _ (sym c.length_row.ensures ∙ c.in_ok-length_row.was) (sym c.length_row-2.ensures ∙ c.in_ok-length_row-2.was))
