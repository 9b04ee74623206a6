-- `build_cores::gathered` meets its contract: the places below j are gathered.
use Rattle.build_cores.proofs.Low.{Gathered}
use Rattle.build_cores.proofs.gathered.Given as goal

abbrev pub invariant-loop-j : goal.invariant-loop-j
invariant-loop-j l = Gathered l.at l.low l.j
