-- `masks_of` meets its contract: the masks of the values before x.
use Rattle.std.proofs.Common.{◌≡◌, ℕ, ◌<◌, get_or}
use Rattle.sets.specs.Masks.{mask}
use Rattle.event_spec.specs.Events.{line_count, spans}
use Rattle.event_table.proofs.masks_of.Given as goal

abbrev pub invariant-loop-x : goal.invariant-loop-x
invariant-loop-x l = (z : ℕ) → z < l.x → get_or l.lines-items z 0 ≡ mask (line_count l.events) (spans l.events l.i z)
