-- `build_visit::initial::begins` meets its contract.
use mathlib.Core.Path.{ap}
use mathlib.Core.Bool.{not}
use borrow.Author.Rules.{rules}
use Rattle.build_visit.proofs.initial.begins.Statement.{statement}
use Rattle.build_visit.proofs.initial.begins.Tie as tie

pub begins_spec : {M : Type 1} → statement M
begins_spec = tie.close (tie.spec
    (λ c κs. search rules) (λ c. rw c.if-shape.true c.before.in_set-here.ensures) (λ c. rw c.if-shape.false (ap not c.before.in_set-here.ensures)))
