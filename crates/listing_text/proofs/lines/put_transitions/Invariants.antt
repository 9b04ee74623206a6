-- `put_transitions` meets its contract: the lines of the transitions before t are written.
use Rattle.std.proofs.Common.{take}
use Rattle.slice_text.specs.Put.{Put}
use Rattle.listing_lines_spec.specs.Lines.{transition_lines}
use Rattle.listing_text.proofs.lines.put_transitions.Given as goal

abbrev pub invariant-loop-t : goal.invariant-loop-t
invariant-loop-t l = Put l.fn.out l.at (transition_lines (take l.t-index l.list)) l.out l.end
