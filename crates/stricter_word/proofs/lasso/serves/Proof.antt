-- `serves` meets its contract.
use native.Mathlib.Omega.{arith}
use borrow.Author.Rules.{rules}
use borrow.Author.Tests.{lt-ltb, le-ltb}
use lib.ListN.{length, get_or}
use Rattle.stricter_laws.specs.Tests.{accepts_in}
use Rattle.stricter_laws.proofs.Pairs.{Parts, parts}
use Rattle.stricter_word.proofs.lasso.serves.Statement.{statement}
use Rattle.stricter_word.proofs.lasso.serves.Tie as tie

returns : tie.Need-returns-then-marks-x-lt2
returns c = let start : tie.Start = search in rw (le-ltb 1 (get_or start.args.marks.now start.args.x 0) (omega arith))

-- the two numbers of the pair
own : (c : tie.Start) → Parts (length c.args.lcodes.now) (length c.args.rcodes.now) c.args.x
own c = parts _ _ c.args.x (rw c.requires.0 at c.requires.1)

returns-2 : tie.Need-returns-then-second
unfolding accepts_in
returns-2 c = let start : tie.Start = search in let then2 : tie.Then-second = search in
    rw (then2.if-second.true, lt-ltb 1 (get_or start.args.marks.now start.args.x 0) (omega arith)) c.is_accepting.ensures

returns-3 : tie.Need-returns
unfolding accepts_in
returns-3 c = let start : tie.Start = search in let else2 : tie.Else-second = search in
    rw (else2.if-second.false, lt-ltb 1 (get_or start.args.marks.now start.args.x 0) (omega arith)) c.is_accepting-2.ensures

pub serves_spec : {M : Type 1} → statement M
serves_spec = tie.close (tie.spec
    (λ c. search rules) returns (λ c. let h = (own (search)).some in omega arith) (λ c. let h = (own (search)).second in omega arith)
    (λ c. let h = (own (search)).second in omega arith) (λ c κs. search rules) returns-2 (λ c. let h = (own (search)).some in omega arith)
    (λ c. let h = (own (search)).first in omega arith) (λ c. let h = (own (search)).first in omega arith) (λ c κs. search rules) returns-3)
