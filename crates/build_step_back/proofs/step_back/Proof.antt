-- `build_step_back::step_back` meets its contract.
use borrow.Author.Rules.{rules}
use Rattle.build_step_back.specs.Step.{accepting_part}
use Rattle.build_step_back.proofs.Sum.{both}
use Rattle.build_step_back.proofs.step_back.Statement.{statement}
use Rattle.build_step_back.proofs.step_back.Tie as tie

step-accepting-requires : tie.Need-step_accepting-others-requires
step-accepting-requires c κs = let start : tie.Start = search in let p = start.requires in (p.0, p.1, c.before.step_rejecting-rejecting.ensures.long)

returns : tie.Need-returns
unfolding accepting_part
returns c = let at-step-rejecting : tie.After-step_rejecting-rejecting = search in both at-step-rejecting.step_rejecting-rejecting.ensures c.step_accepting-others.ensures

pub step_back_spec : {M : Type 1} → statement M
step_back_spec = tie.close (tie.spec (λ c κs. search rules) step-accepting-requires (λ c. search rules) returns)
