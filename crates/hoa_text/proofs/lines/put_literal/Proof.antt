-- `hoa_text::lines::put_literal` meets its contract: the proposition, or `!` and it.
use mathlib.Core.Path.{ap}
use native.Mathlib.Omega.{arith}
use borrow.Author.Rules.{rules}
use lib.ListN.{length}
use Rattle.slice_text.proofs.Puts.{put_as, put_then}
use Rattle.hoa_text.proofs.Labels.{set-literal, unset-literal}
use Rattle.hoa_text.proofs.lines.put_literal.Statement.{statement}
use Rattle.hoa_text.proofs.lines.put_literal.Tie as tie

put-byte-requires : tie.Need-put_byte-requires
put-byte-requires c κs = let start : tie.Start = search in let a = start.args in omega (arith, ap length (set-literal a.letter a.i c.before.if-letter-i-eq1.true))

returns : tie.Need-returns-then-letter-i-eq1
returns c =
    let start : tie.Start = search in let a = start.args in let then1 : tie.Then-letter-i-eq1 = search in let at-put-byte : tie.After-put_byte = search in
    put_as (set-literal a.letter a.i then1.if-letter-i-eq1.true) at-put-byte.put_byte.ensures

put-byte-requires-2 : tie.Need-put_byte-a-requires
put-byte-requires-2 c κs = let start : tie.Start = search in let a = start.args in omega (arith, ap length (unset-literal a.letter a.i c.before.if-letter-i-eq1.false))

put-byte-requires-3 : tie.Need-put_byte-requires-2
put-byte-requires-3 c κs =
    let start : tie.Start = search in let a = start.args in let else1 : tie.Else-letter-i-eq1 = search in omega (arith, ap length (unset-literal a.letter a.i else1.if-letter-i-eq1.false))

returns-2 : tie.Need-returns
returns-2 c =
    let start : tie.Start = search in let a = start.args in let else1 : tie.Else-letter-i-eq1 = search in let at-put-byte2 : tie.After-put_byte-a = search in
    let at-put-byte3 : tie.After-put_byte-2 = search in
    put_as (unset-literal a.letter a.i else1.if-letter-i-eq1.false) (put_then at-put-byte2.put_byte-a.ensures at-put-byte3.put_byte-2.ensures)

pub put_literal_spec : {M : Type 1} → statement M
put_literal_spec = tie.close (tie.spec
    (λ c. search rules) (λ c. search rules) (λ c. search rules) put-byte-requires (λ c. search rules) returns put-byte-requires-2 put-byte-requires-3
    (λ c. search rules) returns-2)
