-- `listing_text::lines::put_built` meets its contract: its words one after the other.
use native.Mathlib.Omega.{arith}
use borrow.Author.Rules.{rules}
use Rattle.listing_lines_spec.specs.Lines.{built_line}
use Rattle.listing_lines_spec.proofs.Lengths.{built-length}
use Rattle.slice_text.proofs.Puts.{put_then}
use Rattle.listing_text.proofs.lines.put_built.Statement.{statement}
use Rattle.listing_text.proofs.lines.put_built.Tie as tie

put-requires : tie.Need-put-a-requires
put-requires c κs = let start : tie.Start = search in let a = start.args in omega (arith, built-length a.macrostates a.transitions)

put-word-requires : tie.Need-put_word-b-requires
put-word-requires c κs = let start : tie.Start = search in let a = start.args in omega (arith, built-length a.macrostates a.transitions)

put-word-requires-2 : tie.Need-put_word-c-requires
put-word-requires-2 c κs = let start : tie.Start = search in let a = start.args in omega (arith, built-length a.macrostates a.transitions)

put-byte-requires : tie.Need-put_byte-requires
put-byte-requires c κs = let start : tie.Start = search in let a = start.args in omega (arith, built-length a.macrostates a.transitions)

returns : tie.Need-returns
unfolding built_line
returns c =
    let at-put-word : tie.After-put_word-b = search in let at-put : tie.After-put-a = search in let at-put-word2 : tie.After-put_word-c = search in
    let at-put-byte : tie.After-put_byte = search in put_then at-put.put-a.ensures (put_then at-put-word.put_word-b.ensures
    (put_then at-put-word2.put_word-c.ensures at-put-byte.put_byte.ensures))

pub put_built_spec : {M : Type 1} → statement M
put_built_spec = tie.close (tie.spec put-requires put-word-requires put-word-requires-2 put-byte-requires (λ c. search rules) returns)
