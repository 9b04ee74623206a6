-- `hoa_text::lines::put_state` meets its contract: its words one after the other.
use mathlib.Core.Path.{◌≡◌, ap}
use mathlib.Core.Bool.{Bool, true, false}
use native.Mathlib.Omega.{arith}
use borrow.Author.Rules.{rules}
use Prim.Native.Nat.{ℕ}
use lib.ListN.{length}
use Rattle.hoa_spec.specs.Lines.{state_line}
use Rattle.hoa_laws.proofs.Lengths.{state-length}
use Rattle.slice_text.proofs.Puts.{put_as, put_then}
use Rattle.hoa_text.proofs.lines.put_state.Statement.{statement}
use Rattle.hoa_text.proofs.lines.put_state.Tie as tie

-- the line of an accepting macrostate, or of another
line-is : (accepting value : Bool) (number : ℕ) → accepting ≡ value → state_line number accepting ≡ state_line number value
line-is accepting value number e = ap (state_line number) e

put-requires : tie.Need-put-a-requires
put-requires c κs = let start : tie.Start = search in let a = start.args in omega (arith, state-length a.number a.accepting)

put-number-requires : tie.Need-put_number-b-requires
put-number-requires c κs = let start : tie.Start = search in let a = start.args in omega (arith, state-length a.number a.accepting)

put-requires-2 : tie.Need-put-requires
put-requires-2 c κs = let start : tie.Start = search in let a = start.args in let then1 : tie.Then-accepting = search in
    omega (arith, state-length a.number true, ap length (line-is a.accepting true a.number then1.if-accepting.true))

returns : tie.Need-returns-then-accepting
unfolding state_line
returns c =
    let start : tie.Start = search in let a = start.args in let at-put-number : tie.After-put_number-b = search in let at-put : tie.After-put-a = search in let then1 : tie.Then-accepting = search in
    let at-put2 : tie.After-put = search in put_as (line-is a.accepting true a.number then1.if-accepting.true)
    (put_then at-put.put-a.ensures (put_then at-put-number.put_number-b.ensures at-put2.put.ensures))

put-byte-requires : tie.Need-put_byte-requires
put-byte-requires c κs =
    let start : tie.Start = search in let a = start.args in omega (arith, state-length a.number false, ap length (line-is a.accepting false a.number c.before.if-accepting.false))

returns-2 : tie.Need-returns
unfolding state_line
returns-2 c =
    let start : tie.Start = search in let a = start.args in let at-put-number : tie.After-put_number-b = search in let at-put : tie.After-put-a = search in let else1 : tie.Else-accepting = search in
    let at-put-byte : tie.After-put_byte = search in put_as (line-is a.accepting false a.number else1.if-accepting.false)
    (put_then at-put.put-a.ensures (put_then at-put-number.put_number-b.ensures at-put-byte.put_byte.ensures))

pub put_state_spec : {M : Type 1} → statement M
put_state_spec = tie.close (tie.spec
    put-requires put-number-requires put-requires-2 (λ c. search rules) returns put-byte-requires (λ c. search rules)
    returns-2)
