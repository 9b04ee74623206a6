-- `file_clauses::contains_at` meets its contract: on masks, the clause at j is inside the one at i if that leaves it as it is.
use mathlib.Core.Path.{◌≡◌}
use native.Mathlib.Omega.{arith}
use borrow.Author.Rules.{rules}
use Rattle.file_clauses.proofs.Nested.{same_place, two-places}
use Rattle.file_clauses.proofs.contains_at.Statement.{statement}
use Rattle.file_clauses.proofs.contains_at.Tie as tie

returns : tie.Need-returns-then-i-j
returns c = let a = c.before.args in let same : a.i ≡ a.j = omega (arith, c.if-i-j.true) in same_place a.clauses.now a.i a.j same

returns-2 : tie.Need-returns
returns-2 c =
    let start : tie.Start = search in let a = start.args in let else1 : tie.Else-i-j = search in let two : (a.i ≡ a.j → ⊥) = λ e. omega (arith, else1.if-i-j.false) in
    two-places a.clauses.now a.i a.j two (omega (arith, c.shared_slice_known-3-1.given a.j))

pub contains_at_spec : {M : Type 1} → statement M
contains_at_spec = tie.close (tie.spec returns (λ c. search rules) (λ c. search rules) (λ c. search rules) returns-2)
