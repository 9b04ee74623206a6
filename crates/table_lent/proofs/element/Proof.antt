-- `element` meets its contract.
use mathlib.Core.Path.{sym, ◌∙◌}
use native.Mathlib.Omega.{arith}
use borrow.Author.Rules.{rules}
use Rattle.table_lent.proofs.element.Statement.{statement}
use Rattle.table_lent.proofs.element.Tie as tie
use Rattle.table_lent.proofs.Reading.{both-length, both-low, both_high}

returns : tie.Need-returns-then-i-n
returns c = let start : tie.Start = search in let a = start.args in sym (both-low a.words.now a.bytes.now a.i (omega arith))

returns-2 : tie.Need-returns
returns-2 c = let start : tie.Start = search in let a = start.args in
    c.word_at.ensures ∙ sym (both_high a.words.now a.bytes.now a.i (omega arith) (omega (arith, both-length a.words.now a.bytes.now)))

pub element_spec : {M : Type 1} → statement M
element_spec = tie.close (tie.spec
    (λ c. search rules) (λ c. omega arith) returns
    (λ c. let start : tie.Start = search in let a = start.args in omega (arith, both-length a.words.now a.bytes.now))
    (λ c κs. let start : tie.Start = search in let a = start.args in omega (arith, both-length a.words.now a.bytes.now)) returns-2)
