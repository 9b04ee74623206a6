-- `judge_choices_rounds::mark` meets its contract.
use Rattle.judge_choices_place.proofs.Places.{mark-no, mark-yes}
use borrow.Author.Rules.{rules}
use Rattle.judge_choices_rounds.proofs.mark.Statement.{statement}
use Rattle.judge_choices_rounds.proofs.mark.Tie as tie

returns : tie.Need-returns-then-found-eq0
returns c = let a = c.before.args in λ x. mark-no a.changed a.found a.p x c.if-found-eq0.true

returns-2 : tie.Need-returns
returns-2 c = let a = c.before.args in λ x. mark-yes a.changed a.found a.p x c.if-found-eq0.false c.before.requires

pub mark_spec : {M : Type 1} → statement M
mark_spec = tie.close (tie.spec returns (λ c. search rules) returns-2)
