-- `count` meets its contract.
use native.Mathlib.Omega.{arith}
use borrow.Author.Rules.{rules}
use Rattle.table_lent.proofs.Reading.{both-length}
use Rattle.table_lent.proofs.count.Statement.{statement}
use Rattle.table_lent.proofs.count.Tie as tie

pub count_spec : {M : Type 1} → statement M
count_spec = tie.close (tie.spec (λ c. search rules) (λ c. omega (arith, both-length c.args.words.now c.args.bytes.now)))
