-- `live_call::change` meets its contract: what each call needs and leaves.
use native.Mathlib.Omega.{arith}
use Rattle.table_lent.specs.Lent.{words_in}
use Rattle.live_spec.specs.Called.{effect}
use borrow.Author.Rules.{rules}
use Rattle.live_call.proofs.change.Statement.{statement}
use Rattle.live_call.proofs.change.Tie as tie

cast-arrive : tie.Need-overflow_cast-a
cast-arrive c = let start : tie.Start = search in let k = rw c.in-Arrive.is at start.requires.2 in omega (arith, k.0)

arrive-requires : tie.Need-arrive-requires
arrive-requires c κs = let start : tie.Start = search in let at_call : tie.In-Arrive = search in let k = rw at_call.in-Arrive.is at start.requires.2 in (start.requires.1, k.1)

withdraw-requires : tie.Need-withdraw-requires
withdraw-requires c κs = let start : tie.Start = search in (start.requires.0, start.requires.1, rw c.in-Withdraw.is at start.requires.2)

mark-requires : tie.Need-mark-requires
mark-requires c κs = let start : tie.Start = search in let at-call2 : tie.In-Mark = search in (rw at-call2.in-Mark.is at start.requires.2, start.requires.1.long)

return-to-requires : tie.Need-return_to-requires
return-to-requires c κs = let start : tie.Start = search in let at-call3 : tie.In-Return = search in (rw at-call3.in-Return.is at start.requires.2, start.requires.0, start.requires.1)

returns : tie.Need-returns-in-Start
unfolding effect
returns c =
    let start : tie.Start = search in let a = start.args in let at-enum-told : tie.In-Start = search in let at-start : tie.After-start = search in
    rw at-enum-told.in-Start.is (at-start.start.ensures (words_in a.transitions.now))

returns-2 : tie.Need-returns-in-Arrive
unfolding effect
returns-2 c =
    let start : tie.Start = search in let a = start.args in let at_call : tie.In-Arrive = search in let at-arrive : tie.After-arrive = search in
    rw at_call.in-Arrive.is (at-arrive.arrive.ensures a.initial)

returns-3 : tie.Need-returns-in-Withdraw
unfolding effect
returns-3 c = let at-enum-told2 : tie.In-Withdraw = search in let at-withdraw : tie.After-withdraw = search in rw at-enum-told2.in-Withdraw.is at-withdraw.withdraw.ensures

returns-4 : tie.Need-returns-in-Mark
unfolding effect
returns-4 c = let at-call2 : tie.In-Mark = search in let at_mark : tie.After-mark = search in rw at-call2.in-Mark.is at_mark.mark.ensures

returns-5 : tie.Need-returns-in-Return
unfolding effect
returns-5 c = let at-call3 : tie.In-Return = search in let at-return-to : tie.After-return_to = search in rw at-call3.in-Return.is at-return-to.return_to.ensures

pub change_spec : {M : Type 1} → statement M
change_spec = tie.close (tie.spec
    (λ c. search rules) (λ c κs. search rules) (λ c. search rules) cast-arrive arrive-requires (λ c. search rules) withdraw-requires (λ c. search rules)
    (λ c. search rules) mark-requires (λ c. search rules) (λ c. search rules) return-to-requires (λ c. search rules) returns (λ c. search rules) returns-2
    (λ c. search rules) returns-3 (λ c. search rules) returns-4 (λ c. search rules) returns-5)
