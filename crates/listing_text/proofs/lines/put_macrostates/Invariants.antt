-- `put_macrostates` meets its contract: the lines of the first i codes are written.
use Rattle.std.proofs.Common.{take}
use Rattle.slice_text.specs.Put.{Put}
use Rattle.listing_lines_spec.specs.Lines.{initial_at, macrostate_lines}
use Rattle.listing_text.proofs.lines.put_macrostates.Given as goal

abbrev pub invariant-loop-i : goal.invariant-loop-i
invariant-loop-i l = Put l.fn.out l.at (macrostate_lines (initial_at l.initial') (take l.i l.list)) l.out l.end
