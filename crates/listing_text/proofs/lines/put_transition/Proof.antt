-- `listing_text::lines::put_transition` meets its contract: its words one after the other.
use native.Mathlib.Omega.{arith}
use borrow.Author.Rules.{rules}
use Rattle.listing_lines_spec.specs.Lines.{t_line}
use Rattle.listing_lines_spec.proofs.Lengths.{t-length}
use Rattle.slice_text.proofs.Puts.{put_then}
use Rattle.listing_text.proofs.lines.put_transition.Statement.{statement}
use Rattle.listing_text.proofs.lines.put_transition.Tie as tie

put-byte-requires : tie.Need-put_byte-a-requires
put-byte-requires c κs = let start : tie.Start = search in let a = start.args in omega (arith, t-length a.source a.letter a.target)

put-word-requires : tie.Need-put_word-b-requires
put-word-requires c κs = let start : tie.Start = search in let a = start.args in omega (arith, t-length a.source a.letter a.target)

put-word-requires-2 : tie.Need-put_word-c-requires
put-word-requires-2 c κs = let start : tie.Start = search in let a = start.args in omega (arith, t-length a.source a.letter a.target)

put-word-requires-3 : tie.Need-put_word-d-requires
put-word-requires-3 c κs = let start : tie.Start = search in let a = start.args in omega (arith, t-length a.source a.letter a.target)

put-byte-requires-2 : tie.Need-put_byte-requires
put-byte-requires-2 c κs = let start : tie.Start = search in let a = start.args in omega (arith, t-length a.source a.letter a.target)

returns : tie.Need-returns
unfolding t_line
returns c =
    let at-put-word2 : tie.After-put_word-c = search in let at-put-word : tie.After-put_word-b = search in let at-put-byte : tie.After-put_byte-a = search in
    let at-put-word3 : tie.After-put_word-d = search in let at-put-byte2 : tie.After-put_byte = search in
    put_then at-put-byte.put_byte-a.ensures (put_then at-put-word.put_word-b.ensures (put_then at-put-word2.put_word-c.ensures
    (put_then at-put-word3.put_word-d.ensures at-put-byte2.put_byte.ensures)))

pub put_transition_spec : {M : Type 1} → statement M
put_transition_spec =
    tie.close (tie.spec put-byte-requires put-word-requires put-word-requires-2 put-word-requires-3 put-byte-requires-2 (λ c. search rules) returns)
