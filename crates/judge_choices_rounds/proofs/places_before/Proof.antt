-- `judge_choices_rounds::places_before` meets its contract.
use native.Mathlib.Omega.{arith}
use Rattle.judge_choices_place.proofs.Places.{clear, before-lt, before-low, before-none, before-some}
use borrow.Author.Rules.{rules}
use Rattle.judge_choices_rounds.proofs.places_before.Statement.{statement}
use Rattle.judge_choices_rounds.proofs.places_before.Tie as tie

returns : tie.Need-returns-then-changed-at-eq0
returns c = let a = c.before.args in let p = c.before.requires in
    (before-lt a.changed a.end p.2, λ u v x y k l b. before-none u v a.changed a.at a.end k x y (clear a.changed a.at c.if-changed-at-eq0.true) b)

returns-2 : tie.Need-returns
returns-2 c = let a = c.before.args in let p = c.before.requires in
    (before-low a.changed a.end (omega arith) p.1 p.2, λ u v x y k l b. before-some u v a.changed a.at a.end k x y (omega arith) p.1 b)

pub places_before_spec : {M : Type 1} → statement M
places_before_spec = tie.close (tie.spec (λ c. search rules) returns (λ c. search rules) (λ c. search rules) returns-2)
