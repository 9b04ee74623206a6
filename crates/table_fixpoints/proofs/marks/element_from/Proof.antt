-- `table_fixpoints::marks::element_from` meets its contract.
use borrow.Author.Rules.{rules}
use Rattle.table_lent.specs.Lent.{in_both}
use Rattle.table_fixpoints_spec.proofs.Orders.{from_end, from_front}
use Rattle.table_fixpoints.proofs.marks.element_from.Statement.{statement}
use Rattle.table_fixpoints.proofs.marks.element_from.Tie as tie

returns : tie.Need-returns-then-back
returns c = let start : tie.Start = search in let a = start.args in let pre = start.requires in
    from_end a.back (in_both a.moves.now a.movebytes.now).numbers a.m a.i _ pre.0 pre.1 c.before.if-back.true c.element.ensures

returns-2 : tie.Need-returns
returns-2 c =
    let start : tie.Start = search in let a = start.args in from_front a.back (in_both a.moves.now a.movebytes.now).numbers a.i _ c.before.if-back.false c.element-2.ensures

pub element_from_spec : {M : Type 1} → statement M
element_from_spec = tie.close (tie.spec (λ c. search rules) (λ c. search rules) (λ c κs. search rules) returns (λ c κs. search rules) returns-2)
