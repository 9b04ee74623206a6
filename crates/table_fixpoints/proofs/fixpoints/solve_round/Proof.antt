-- `table_fixpoints::fixpoints::solve_round` meets its contract.
use borrow.Author.Rules.{rules}
use Rattle.graph_walks.proofs.Rounds.{solve-round}
use Rattle.table_fixpoints.proofs.fixpoints.solve_round.Statement.{statement}
use Rattle.table_fixpoints.proofs.fixpoints.solve_round.Tie as tie

returns : tie.Need-returns
returns c =
    let start : tie.Start = search in let at-mark-until-stable : tie.After-mark_until_stable = search in let at-settle : tie.After-settle = search in
    solve-round _ _ _ _ _ start.requires.1 at-mark-until-stable.mark_until_stable.ensures at-settle.settle.ensures

pub solve_round_spec : {M : Type 1} → statement M
solve_round_spec = tie.close (tie.spec (λ c κs. search rules) (λ c κs. search rules) (λ c. search rules) returns)
