-- `file_tidy::counts_in` meets its contract.
use native.Mathlib.Omega.{arith}
use borrow.Author.Rules.{rules}
use Rattle.file_tidy.proofs.Parts.{counts_end}
use Rattle.file_tidy.proofs.counts_in.Statement.{statement}
use Rattle.file_tidy.proofs.counts_in.Tie as tie

returns : tie.Need-returns
returns c = let start : tie.Start = search in rw c.before.read_head-h.ensures (counts_end start.args.f.now start.requires.1)

pub counts_in_spec : {M : Type 1} → statement M
counts_in_spec = tie.close (tie.spec
    (λ c κs. search rules) (λ c. omega arith) (λ c. rw c.read_head-h.ensures (omega arith)) (λ c. rw c.read_head-h.ensures (omega arith))
    (λ c. search rules) (λ c. search rules) (λ c. search rules) returns)
