-- `build_visit::initial::in_set` meets its contract.
use mathlib.Core.Path.{ap, ◌∙◌}
use mathlib.Core.Bool.{not}
use borrow.Author.Rules.{rules}
use Rattle.build_spec.proofs.Starting.{in-set-ranked, in-set-closed}
use Rattle.build_visit.proofs.initial.in_set.Statement.{statement}
use Rattle.build_visit.proofs.initial.in_set.Tie as tie

returns : tie.Need-returns-then-ranks-q-gt0
returns c = let start : tie.Start = search in let a = start.args in ap not c.before.contains-accepts.ensures ∙ in-set-ranked a.ranks a.accepting a.q c.if-ranks-q-gt0.true

returns-2 : tie.Need-returns
returns-2 c = let start : tie.Start = search in let a = start.args in c.before.contains-accepts.ensures ∙ in-set-closed a.ranks a.accepting a.q c.if-ranks-q-gt0.false

pub in_set_spec : {M : Type 1} → statement M
in_set_spec = tie.close (tie.spec (λ c. search rules) (λ c κs. search rules) (λ c. search rules) (λ c. search rules) returns returns-2)
