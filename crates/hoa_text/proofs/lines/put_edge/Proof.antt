-- `hoa_text::lines::put_edge` meets its contract: its parts one after the other.
use mathlib.Core.Path.{◌≡◌}
use Prim.Native.Nat.{◌+◌}
use native.Mathlib.Omega.{arith}
use lib.ListN.{length}
use borrow.Author.Rules.{rules}
use Rattle.hoa_spec.specs.Lines.{label, edge_line}
use Rattle.hoa_laws.proofs.Lengths.{edge-length}
use Rattle.slice_text.specs.Decimal.{word}
use Rattle.slice_text.proofs.Puts.{put_then}
use Rattle.hoa_text.proofs.lines.put_edge.Statement.{statement}
use Rattle.hoa_text.proofs.lines.put_edge.Tie as tie

-- how long the line is
long : (s : tie.Start) → let a = s.args in length (edge_line a.b a.letter a.target) ≡ length (label a.b a.letter) + length (word a.target) + 3
long s = edge-length s.args.b s.args.letter s.args.target

returns : tie.Need-returns
unfolding edge_line
returns c =
    let at-put-byte2 : tie.After-put_byte-d = search in let at-put-label : tie.After-put_label-c = search in let at-put-byte : tie.After-put_byte-a = search in
    let at-put-number : tie.After-put_number-e = search in let at-put-byte3 : tie.After-put_byte = search in
    put_then at-put-byte.put_byte-a.ensures (put_then at-put-label.put_label-c.ensures (put_then at-put-byte2.put_byte-d.ensures
    (put_then at-put-number.put_number-e.ensures at-put-byte3.put_byte.ensures)))

pub put_edge_spec : {M : Type 1} → statement M
put_edge_spec = tie.close (tie.spec
    (λ c κs. omega (arith, long (search))) (λ c κs. let start : tie.Start = search in (start.requires.0, omega (arith, long (search))))
    (λ c κs. omega (arith, long (search))) (λ c κs. omega (arith, long (search))) (λ c κs. omega (arith, long (search)))
    (λ c. search rules) returns)
