-- `sheet_words::next_word` meets its contract.
use Prim.Native.Nat.{◌+◌}
use native.Mathlib.Omega.{arith}
use borrow.Author.Rules.{rules}
use Rattle.sheet_words.proofs.Places.{next-lone, next-whole, next-cut}
use Rattle.sheet_words.proofs.next_word.Statement.{statement}
use Rattle.sheet_words.proofs.next_word.Tie as tie

add-size-2 : tie.Need-overflow_add-size-2
add-size-2 c = let start : tie.Start = search in let a = start.args in omega (arith, c.before.shared_slice_known-1.given a.at, c.shared_slice_known-2-1.given (a.at + 1))

returns-2 : tie.Need-returns-then-end-at
returns-2 c = let start : tie.Start = search in let a = start.args in next-cut a.sheet.now a.at (omega arith) (omega (arith, c.if-end-at))

returns-3 : tie.Need-returns
returns-3 c = let start : tie.Start = search in let a = start.args in next-whole a.sheet.now a.at (omega arith) (omega (arith, c.if-end-at))

pub next_word_spec : {M : Type 1} → statement M
next_word_spec = tie.close (tie.spec
    (λ c. search rules) (λ c. let a = c.before.args in next-lone a.sheet.now a.at (omega arith)) (λ c. search rules)
    (λ c. let start : tie.Start = search in omega (arith, c.shared_slice_known-1.given start.args.at)) (λ c. search rules) (λ c. search rules)
    (λ c. let start : tie.Start = search in omega (arith, c.shared_slice_known-2-1.given (start.args.at + 1))) add-size-2 (λ c. search rules) (λ c. search rules)
    returns-2 (λ c. search rules) (λ c. search rules) returns-3)
