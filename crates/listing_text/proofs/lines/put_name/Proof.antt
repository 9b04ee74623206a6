-- `listing_text::lines::put_name` meets its contract: its words one after the other.
use native.Mathlib.Omega.{arith}
use borrow.Author.Rules.{rules}
use Rattle.listing_lines_spec.specs.Lines.{n_line}
use Rattle.listing_lines_spec.proofs.Lengths.{n-length}
use Rattle.slice_text.proofs.Puts.{put_then}
use Rattle.listing_text.proofs.lines.put_name.Statement.{statement}
use Rattle.listing_text.proofs.lines.put_name.Tie as tie

put-byte-requires : tie.Need-put_byte-a-requires
put-byte-requires c κs = let start : tie.Start = search in let a = start.args in omega (arith, n-length a.letter a.name.now)

put-word-requires : tie.Need-put_word-b-requires
put-word-requires c κs = let start : tie.Start = search in let a = start.args in omega (arith, n-length a.letter a.name.now)

put-byte-requires-2 : tie.Need-put_byte-c-requires
put-byte-requires-2 c κs = let start : tie.Start = search in let a = start.args in omega (arith, n-length a.letter a.name.now)

put-requires : tie.Need-put-d-requires
put-requires c κs = let start : tie.Start = search in let a = start.args in omega (arith, n-length a.letter a.name.now)

put-byte-requires-3 : tie.Need-put_byte-requires
put-byte-requires-3 c κs = let start : tie.Start = search in let a = start.args in omega (arith, n-length a.letter a.name.now)

returns : tie.Need-returns
unfolding n_line
returns c =
    let at-put-byte2 : tie.After-put_byte-c = search in let at-put-word : tie.After-put_word-b = search in let at-put-byte : tie.After-put_byte-a = search in
    let at-put : tie.After-put-d = search in let at-put-byte3 : tie.After-put_byte = search in put_then at-put-byte.put_byte-a.ensures
    (put_then at-put-word.put_word-b.ensures (put_then at-put-byte2.put_byte-c.ensures
    (put_then at-put.put-d.ensures at-put-byte3.put_byte.ensures)))

pub put_name_spec : {M : Type 1} → statement M
put_name_spec = tie.close (tie.spec put-byte-requires put-word-requires put-byte-requires-2 put-requires put-byte-requires-3 (λ c. search rules) returns)
