-- `put_starts` meets its contract: the start lines of the first i codes are written.
use Rattle.std.proofs.Common.{take}
use Rattle.slice_text.specs.Put.{Put}
use Rattle.listing_lines_spec.specs.Lines.{initial_at, lines}
use Rattle.table_lent.specs.Lent.{words_in}
use Rattle.hoa_spec.specs.Text.{flags_of, start_of}
use Rattle.hoa_text.proofs.writer.put_starts.Given as goal

abbrev pub invariant-loop-i : goal.invariant-loop-i
invariant-loop-i l = Put l.fn.out l.at (lines start_of 0 (take l.i (flags_of (initial_at l.initial') (words_in l.codes)))) l.out l.end
