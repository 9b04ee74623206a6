-- `file_read::counts_of` meets its contract.
use native.Mathlib.Omega.{arith}
use Rattle.file_read.proofs.Answer.{Served, served}
use borrow.Author.Rules.{rules}
use Rattle.file_read.proofs.counts_of.Statement.{statement}
use Rattle.file_read.proofs.counts_of.Tie as tie

-- the file was accepted
known : (c : tie.Start) → Served c.args.f.now c.args.l
known c = served c.args.f.now c.args.l c.requires

pub counts_of_spec : {M : Type 1} → statement M
counts_of_spec = tie.close (tie.spec
    (λ c. omega (arith, (known c.before).bounds)) (λ c. (known c.before).long) (λ c. omega (arith, (known c.before).bounds))
    (λ c. omega (arith, (known c.before).bounds)) (λ c. search rules) (λ c. (known (search)).counts))
