-- `follow_call::go_on` meets its contract.
use mathlib.Core.Path.{◌≡◌, sym}
use native.Mathlib.Omega.{arith}
use lib.ListN.{length, take}
use lib.Seq.{length-take-le}
use borrow.Author.Rules.{rules}
use Rattle.table_lent.specs.Lent.{words_in}
use Rattle.follow_call.proofs.Served.{part-taken}
use Rattle.follow_call.proofs.go_on.Statement.{statement}
use Rattle.follow_call.proofs.go_on.Tie as tie

-- the part has n bytes
long : (c : tie.Start) → length (take c.args.n c.args.set.now) ≡ c.args.n
long c = length-take-le c.args.n c.args.set.now c.requires.1

take-over-requires : tie.Need-take_over-requires
take-over-requires c κs =
    let start : tie.Start = search in let pre = start.requires in
    (omega (arith, long start, pre.0), pre.2, rw (long start) pre.3)

returns : tie.Need-returns
returns c =
    let start : tie.Start = search in let at-over : tie.After-take_over = search in let a = start.args in
    part-taken a.n (words_in a.transitions.now) a.letters.now a.set.now _ at-over.take_over.result start.requires.1 at-over.take_over.ensures

pub go_on_spec : {M : Type 1} → statement M
go_on_spec = tie.close (tie.spec (λ c. search rules) (λ c. sym (long (search))) take-over-requires (λ c. search rules) returns)
