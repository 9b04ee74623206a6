-- `bench_step_back::visit` meets its contract: what `step_letters` asks of a core.
use Rattle.std.proofs.Common.{sym, ◌∙◌, rules}
use Rattle.build_spec.proofs.Starting.{few}
use Rattle.bench_step_back.proofs.visit.Statement.{statement}
use Rattle.bench_step_back.proofs.visit.Tie as tie

step-letters-requires : tie.Need-step_letters-requires
step-letters-requires c κs =
    let start : tie.Start = search in let p = start.requires in let at-is-core : tie.After-is_core = search in let else1 : tie.Else-not-is_core = search in
    (p.0, record { within = p.1; passes = sym at-is-core.is_core.ensures ∙ else1.if-not-is_core.false }, c.before.lowest-low.ensures)

pub visit_spec : {M : Type 1} → statement M
visit_spec = tie.close (tie.spec
    (λ c κs. let p = c.requires in few p.0.1.shaped) (λ c. search rules) (λ c κs. search rules) step-letters-requires (λ c. search rules))
