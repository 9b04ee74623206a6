-- `build_cores::ranked` meets its contract: the states below q are placed.
use Rattle.build_cores.specs.Vectors.{rank_at}
use Rattle.build_cores.proofs.Low.{Placed}
use Rattle.build_cores.proofs.ranked.Given as goal

abbrev pub invariant-loop-q : goal.invariant-loop-q
invariant-loop-q l = Placed (rank_at l.ranks) l.at l.q
