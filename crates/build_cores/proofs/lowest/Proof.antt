-- `build_cores::lowest` meets its contract.
use Rattle.build_cores.specs.Vectors.{rank_at}
use borrow.Author.Rules.{rules}
use Rattle.build_cores.proofs.lowest.Statement.{statement}
use Rattle.build_cores.proofs.lowest.Tie as tie

returns : tie.Need-returns
returns c = let start : tie.Start = search in let at-ranked : tie.After-ranked-at = search in λ j h. c.gathered.ensures (rank_at start.args.ranks) at-ranked.ranked-at.ensures j h

pub lowest_spec : {M : Type 1} → statement M
lowest_spec = tie.close (tie.spec (λ c κs. search rules) (λ c κs. search rules) returns)
