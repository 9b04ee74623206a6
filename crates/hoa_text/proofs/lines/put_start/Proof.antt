-- `hoa_text::lines::put_start` meets its contract: nothing, or its words one after the other.
use mathlib.Core.Path.{◌≡◌, ◌∙◌, ap}
use mathlib.Core.Bool.{Bool, true, false, cond}
use mathlib.Core.List.{[]}
use native.Mathlib.Omega.{arith}
use borrow.Author.Rules.{rules}
use Prim.Native.Nat.{ℕ, ◌+◌}
use lib.ListN.{length}
use Rattle.hoa_spec.specs.Lines.{start_line}
use Rattle.hoa_laws.proofs.Lengths.{start-length}
use Rattle.slice_text.specs.Decimal.{word}
use Rattle.slice_text.proofs.Puts.{put_as, put-none, put_then}
use Rattle.hoa_text.proofs.lines.put_start.Statement.{statement}
use Rattle.hoa_text.proofs.lines.put_start.Tie as tie

-- the line, or nothing
line-is : (initial value : Bool) (number : ℕ) → initial ≡ value → cond initial (start_line number) [] ≡ cond value (start_line number) []
line-is initial value number e = ap (λ (b : Bool). cond b (start_line number) []) e

returns : tie.Need-returns-then-not-initial
returns c = let start : tie.Start = search in let a = start.args in
    put_as (line-is a.initial false a.number c.if-not-initial.true) (put-none a.out.now a.at (omega arith))

-- how long the line is
long : (c : tie.Else-not-initial) → let start : tie.Start = search in
    let a = start.args in length (cond a.initial (start_line a.number) []) ≡ length (word a.number) + 7
long c = let start : tie.Start = search in let a = start.args in ap length (line-is a.initial true a.number c.if-not-initial.false) ∙ start-length a.number

returns-2 : tie.Need-returns
unfolding start_line
returns-2 c =
    let start : tie.Start = search in let a = start.args in let at-put : tie.After-put-a = search in let else1 : tie.Else-not-initial = search in let at-put-number : tie.After-put_number-b = search in
    let at-put-byte : tie.After-put_byte = search in
    put_as (line-is a.initial true a.number else1.if-not-initial.false)
    (put_then at-put.put-a.ensures (put_then at-put-number.put_number-b.ensures at-put-byte.put_byte.ensures))

pub put_start_spec : {M : Type 1} → statement M
put_start_spec = tie.close (tie.spec
    returns (λ c κs. omega (arith, long (search))) (λ c κs. omega (arith, long (search)))
    (λ c κs. omega (arith, long (search))) (λ c. search rules) returns-2)
