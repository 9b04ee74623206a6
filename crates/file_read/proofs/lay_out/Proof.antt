-- `file_read::lay_out` meets its contract.
use native.Mathlib.Omega.{arith}
use borrow.Author.Rules.{rules}
use Rattle.file_read.proofs.lay_out.Statement.{statement}
use Rattle.file_read.proofs.lay_out.Tie as tie

pub lay_out_spec : {M : Type 1} → statement M
lay_out_spec = tie.close (tie.spec
    (λ c κs. search rules) (λ c κs. search rules) (λ c. omega arith) (λ c. rw c.before.read_head-head.ensures (omega arith))
    (λ c. rw c.before.read_head-head.ensures (omega arith)) (λ c. rw c.before.read_head-head.ensures (omega arith))
    (λ c. rw (c.before.read_head-head.ensures, c.read_count-clauses.ensures.0)))
