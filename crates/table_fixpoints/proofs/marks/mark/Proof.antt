-- `table_fixpoints::marks::mark` meets its contract.
use Prim.Native.Nat.{◌<◌}
use native.Mathlib.Omega.{arith}
use borrow.Author.Rules.{rules}
use lib.ListN.{get_or}
use Rattle.graph_walks.proofs.Marking.{mark-yes, mark-no}
use Rattle.table_fixpoints.proofs.marks.mark.Statement.{statement}
use Rattle.table_fixpoints.proofs.marks.mark.Tie as tie

returns-4 : tie.Need-returns
returns-4 c =
    let start : tie.Start = search in let a = start.args in let ms = a.marks.now in let known : 1 < get_or ms a.y 0 = omega arith in let member : 0 < get_or ms a.x 0 = omega arith in
    let free : get_or ms a.x 0 < 3 = omega arith in mark-yes a.x a.y ms (record { known = known; member = member; free = free })

pub mark_spec : {M : Type 1} → statement M
mark_spec = tie.close (tie.spec
    (λ c. search rules) (λ c. let start : tie.Start = search in let a = start.args in mark-no a.x a.y a.marks.now (λ d. omega arith)) (λ c. search rules)
    (λ c. let start : tie.Start = search in let a = start.args in mark-no a.x a.y a.marks.now (λ d. omega arith))
    (λ c. let start : tie.Start = search in let a = start.args in mark-no a.x a.y a.marks.now (λ d. omega arith)) (λ c. search rules)
    (λ c. search rules) (λ c. search rules) returns-4)
