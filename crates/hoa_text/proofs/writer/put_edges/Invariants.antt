-- `put_edges` meets its contract: the edge lines of the transitions from place j up to place i are written.
use Rattle.std.proofs.Common.{◌-◌, take, drop}
use Rattle.slice_text.specs.Put.{Put}
use Rattle.listing_lines_spec.specs.Lines.{lines}
use Rattle.table_lent.specs.Lent.{words_in}
use Rattle.hoa_spec.specs.Text.{edge_of}
use Rattle.hoa_text.proofs.writer.put_edges.Given as goal

abbrev pub invariant-loop-i : goal.invariant-loop-i
invariant-loop-i l = Put l.fn.out l.at (lines (edge_of l.b) 0 (take (l.i - l.j) (take (l.k - l.j) (drop l.j (words_in l.moves))))) l.out l.end
