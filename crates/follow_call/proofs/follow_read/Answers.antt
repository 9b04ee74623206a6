-- `follow_read` meets its contract: the rows, then the letters.
use Rattle.std.proofs.Common.{◌≡◌, ℕ, length, sym, ◌∙◌, subst, arith, rules}
use Rattle.std.specs.Prelude.{Err}
use Rattle.trim_spec.specs.Graph.{Inside}
use Rattle.table_lent.specs.Lent.{words_in}
use Rattle.table_lent.proofs.Reading.{words-in-length}
use Rattle.follow_call.proofs.Served.{few, rises, inside, fits, refused-by, served-by}
use Rattle.follow_call.proofs.follow_read.Goals as goal

pub returns-in_err-call_row : goal.returns-in_err-call_row
returns-in_err-call_row c =
    let e : c.from_residual.result ≡ Err c.in_err-call_row.field-0.0 = search rules in
    rw e (refused-by _ (sym c.call_row.ensures ∙ c.in_err-call_row.was))

pub go_on-requires : goal.go_on-requires
go_on-requires c =
    let e = sym c.call_row.ensures ∙ c.in_ok-call_row.was in let codes = c.args.codes.now in let many = words-in-length codes in
    let moves = c.args.transitions.now in let room = length c.args.set.now in let s = c.args.h.s in let letters = c.args.letters.now in (
      omega (arith, many, few s letters codes moves room e),
      omega (arith, many, fits s letters codes moves room e),
      rises s letters codes moves room e,
      subst (λ (n : ℕ). Inside n (words_in moves)) many (inside s letters codes moves room e),
    )

pub returns : goal.returns
returns c = served-by (sym c.call_row.ensures ∙ c.in_ok-call_row.was) (rw (sym (words-in-length c.args.codes.now)) at c.go_on.ensures)
