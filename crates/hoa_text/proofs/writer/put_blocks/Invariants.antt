-- `put_blocks` meets its contract: the lines of the first i macrostates are written, and their transitions stand before place j.
use Rattle.std.proofs.Common.{take}
use Rattle.slice_text.specs.Put.{Put}
use Rattle.listing_lines_spec.specs.Lines.{initial_at, lines}
use Rattle.table_lent.specs.Lent.{words_in}
use Rattle.hoa_spec.specs.Text.{flags_of, block_of}
use Rattle.hoa_laws.specs.Cursor.{Cursor}
use Rattle.hoa_text.proofs.writer.put_blocks.Given as goal

abbrev pub invariant-loop-i : goal.invariant-loop-i
invariant-loop-i l = record {
  cursor : Cursor (words_in l.moves) l.i l.j;
  so_far : Put l.fn.out l.at (lines (block_of l.b (words_in l.moves)) 0 (take l.i (flags_of (initial_at l.initial') (words_in l.codes)))) l.out l.end;
}
