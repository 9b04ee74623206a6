-- `put_names` meets its contract: the lines of the first i letters are written.
use Rattle.std.proofs.Common.{take}
use Rattle.slice_text.specs.Put.{Put}
use Rattle.listing_lines_spec.specs.Lines.{letters_of, name_line, lines}
use Rattle.listing_text.proofs.lines.put_names.Given as goal

abbrev pub invariant-loop-i : goal.invariant-loop-i
invariant-loop-i l = Put l.fn.out l.at (lines (name_line l.names) 0 (take l.i (letters_of l.names))) l.out l.end
