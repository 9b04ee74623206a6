-- `file_names::is_whole` meets its contract.
use borrow.Author.Rules.{rules}
use Rattle.file_names.proofs.Tests.{none-whole, some-whole}
use Rattle.file_names.proofs.is_whole.Statement.{statement}
use Rattle.file_names.proofs.is_whole.Tie as tie

pub is_whole_spec : {M : Type 1} → statement M
is_whole_spec = tie.close (tie.spec (λ c. none-whole _ _ c.if-names-eq0.true) (λ c. search rules) (λ c. some-whole _ _ c.if-names-eq0.false))
