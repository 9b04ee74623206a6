-- `edges_length` meets its contract: the lines of the first i transitions are added up.
use Rattle.std.proofs.Common.{◌≡◌, ◌*◌, ◌≤◌, length, take}
use Rattle.listing_lines_spec.specs.Lines.{lines}
use Rattle.table_lent.specs.Lent.{words_in}
use Rattle.hoa_spec.specs.Text.{edge_of}
use Rattle.hoa_text.proofs.lengths.edges_length.Given as goal

abbrev pub invariant-loop-i : goal.invariant-loop-i
invariant-loop-i l = record {
  so_far : l.total ≡ length (lines (edge_of l.b) 0 (take l.i (words_in l.moves)));
  short : l.total ≤ 20 * l.i;
}
