-- `spanning` meets its contract: the mask of the lines before j.
use Rattle.std.proofs.Common.{◌≡◌}
use Rattle.sets.specs.Masks.{mask}
use Rattle.event_spec.specs.Events.{spans}
use Rattle.event_table.proofs.spanning.Given as goal

abbrev pub invariant-loop-j : goal.invariant-loop-j
invariant-loop-j l = l.lines ≡ mask l.j (spans l.events l.i l.x)
