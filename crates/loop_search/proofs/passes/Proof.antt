-- `loop_search::passes` meets its contract.
use borrow.Author.Rules.{rules}
use Rattle.loop_search.proofs.passes.Statement.{statement}
use Rattle.loop_search.proofs.passes.Tie as tie

pub passes_spec : {M : Type 1} → statement M
passes_spec = tie.close (tie.spec
    (λ c. search rules) (λ c. search rules) (λ c κs. search rules) (λ c. rw c.before.if-passed.false c.contains.ensures))
