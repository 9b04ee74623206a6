-- `word_rows::letter_at` meets its contract.
use native.Mathlib.Omega.{arith}
use borrow.Author.Rules.{rules}
use Rattle.word_rows.proofs.Letters.{in-lead, in-cycle}
use Rattle.word_rows.proofs.letter_at.Statement.{statement}
use Rattle.word_rows.proofs.letter_at.Tie as tie

returns : tie.Need-returns-then-p-n
returns c = let start : tie.Start = search in let a = start.args in in-lead a.lead.now a.cycle.now a.p (omega arith)

returns-2 : tie.Need-returns
returns-2 c = let start : tie.Start = search in let a = start.args in in-cycle a.lead.now a.cycle.now a.p (omega arith)

pub letter_at_spec : {M : Type 1} → statement M
letter_at_spec = tie.close (tie.spec (λ c. search rules) returns (λ c. search rules) returns-2)
