-- `bury` meets its contract: the codes before i have what is given, the others are as they were.
use Rattle.stricter_laws.specs.Fill.{Filled}
use Rattle.stricter_tags.proofs.Live.{given}
use Rattle.stricter_tags.proofs.bury.Given as goal

abbrev pub invariant-loop-i : goal.invariant-loop-i
invariant-loop-i l = Filled (given l.fn.codes l.live) 0 l.i l.fn.codes l.codes
