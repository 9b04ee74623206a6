-- `file_tidy::clauses_in` meets its contract.
use native.Mathlib.Omega.{arith}
use borrow.Author.Rules.{rules}
use Rattle.file_spec.proofs.FileParts.{clauses-part}
use Rattle.file_tidy.proofs.clauses_in.Statement.{statement}
use Rattle.file_tidy.proofs.clauses_in.Tie as tie

returns : tie.Need-returns
returns c = let at-read-head : tie.After-read_head-h = search in let start : tie.Start = search in
    rw (at-read-head.read_head-h.ensures, c.before.read_count-c.ensures.0) (clauses-part start.args.f.now start.requires.1)

pub clauses_in_spec : {M : Type 1} → statement M
clauses_in_spec = tie.close (tie.spec
    (λ c κs. search rules) (λ c κs. search rules) (λ c. omega arith) (λ c. rw c.before.read_head-h.ensures (omega arith))
    (λ c. rw c.before.read_head-h.ensures (omega arith)) (λ c. rw c.before.read_head-h.ensures (omega arith)) (λ c. search rules)
    (λ c. search rules) (λ c. search rules) (λ c. rw c.before.read_head-h.ensures (omega arith)) returns)
