-- `show_set` meets its contract: the bytes before i are written and counted.
use Rattle.live_spec.specs.Afresh.{is_in}
use Rattle.live_spec.specs.State.{set_bytes}
use Rattle.live_set.proofs.Shown.{Showing}
use Rattle.live_set.proofs.show_set.Given as goal

abbrev pub invariant-loop-i : goal.invariant-loop-i
invariant-loop-i l = Showing (is_in (set_bytes l.state)) l.fn.set l.set l.members l.i
