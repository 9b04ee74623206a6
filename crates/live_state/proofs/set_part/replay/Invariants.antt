-- `replay` meets its contract: the set is the one after the letters before i, and nothing else has changed.
use Rattle.std.proofs.Common.{◌≡◌}
use Rattle.table_lent.specs.Lent.{words_in}
use Rattle.live_spec.specs.Effects.{with_set}
use Rattle.live_state.proofs.Replays.{after}
use Rattle.live_state.proofs.set_part.replay.Given as goal

abbrev pub invariant-loop-i : goal.invariant-loop-i
invariant-loop-i l = l.state ≡ with_set (after l.n (words_in l.transitions) l.fn.state l.i) l.fn.state
