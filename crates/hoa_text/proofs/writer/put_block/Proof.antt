-- `hoa_text::writer::put_block` meets its contract: the state line, then the edge lines.
use Prim.Native.Nat.{◌-◌}
use native.Mathlib.Omega.{arith}
use borrow.Author.Rules.{rules}
use lib.ListN.{length-append, take, drop}
use Rattle.slice_text.proofs.Puts.{put_then, put-length}
use Rattle.listing_lines_spec.specs.Lines.{lines}
use Rattle.table_lent.specs.Lent.{words_in}
use Rattle.hoa_spec.specs.Lines.{state_line}
use Rattle.hoa_spec.specs.Text.{edge_of}
use Rattle.hoa_text.proofs.writer.put_block.Statement.{statement}
use Rattle.hoa_text.proofs.writer.put_block.Tie as tie

put-state-requires : tie.Need-put_state-end-requires
put-state-requires c κs = let start : tie.Start = search in let a = start.args in
    omega (arith, start.requires.3, length-append (state_line a.i a.accepting) (lines (edge_of a.b) 0 (take (a.k - a.j) (drop a.j (words_in a.moves.now)))))

put-edges-requires : tie.Need-put_edges-requires
put-edges-requires c κs =
    let start : tie.Start = search in let a = start.args in let p = start.requires in let at-put-state : tie.After-put_state-end = search in let P = at-put-state.put_state-end.ensures in (
      p.0,
      p.1,
      p.2,
      omega (arith, p.3, P.ends, put-length P, length-append (state_line a.i a.accepting) (lines (edge_of a.b) 0 (take (a.k - a.j) (drop a.j (words_in a.moves.now))))),
    )

returns : tie.Need-returns
returns c =
    let at-put-state : tie.After-put_state-end = search in let at-put-edges : tie.After-put_edges = search in put_then at-put-state.put_state-end.ensures at-put-edges.put_edges.ensures

pub put_block_spec : {M : Type 1} → statement M
put_block_spec = tie.close (tie.spec put-state-requires put-edges-requires (λ c. search rules) returns)
