-- `loop_search::ways::step_back` meets its contract.
use Rattle.loop_search.proofs.Steps.{step_is}
use borrow.Author.Rules.{rules}
use Rattle.loop_search.proofs.ways.step_back.Statement.{statement}
use Rattle.loop_search.proofs.ways.step_back.Tie as tie

returns : tie.Need-returns
returns c = let start : tie.Start = search in let a = start.args in
    step_is a.n a.es.now a.others a.w c.before.sources_of-any.result c.sources_of.result c.before.sources_of-any.ensures c.sources_of.ensures

pub step_back_spec : {M : Type 1} → statement M
step_back_spec = tie.close (tie.spec (λ c κs. search rules) (λ c κs. search rules) returns)
