-- `table_runs::flag_node` meets its contract.
use native.Mathlib.Nat.{mod-lt}
-- `table_runs::flag_node` meets its contract.
use mathlib.Core.Path.{sym, ap, ◌∙◌}
use Prim.Native.Nat.{ℕ, ◌%◌}
use native.Mathlib.Omega.{arith}
use lib.ListN.{get_or, set}
use Rattle.table_lent.specs.Lent.{in_both}
use Rattle.table_runs.specs.Tracks.{flag_of_lem}
use Rattle.table_runs.proofs.Flagging.{flagged-out, flagged-in}
use borrow.Author.Rules.{rules}
use Rattle.table_runs.proofs.flag_node.Statement.{statement}
use Rattle.table_runs.proofs.flag_node.Tie as tie

returns : tie.Need-returns-then-marks-x-eq0
returns c = let start : tie.Start = search in let a = start.args in sym (flagged-out (in_both a.codes.now a.codebytes.now).numbers a.marks.now a.x c.if-marks-x-eq0.true)

element-requires : tie.Need-element-requires
element-requires c κs = let e = c.count-n.ensures in let start : tie.Start = search in let h = start.requires.1 in rw (sym e) (mod-lt start.args.x (omega arith))

returns-2 : tie.Need-returns
returns-2 c =
    let start : tie.Start = search in let a = start.args in let k = (in_both a.codes.now a.codebytes.now).numbers in let else1 : tie.Else-marks-x-eq0 = search in
    let at_count : tie.After-count-n = search in sym (flagged-in k a.marks.now a.x else1.if-marks-x-eq0.false
    ∙ ap (λ (v : ℕ). set a.marks.now a.x v) (sym (c.flag_of.ensures ∙ ap flag_of_lem (c.before.element.ensures ∙ ap (λ (n : ℕ). get_or k (a.x % n) 0) at_count.count-n.ensures))))

pub flag_node_spec : {M : Type 1} → statement M
flag_node_spec = tie.close (tie.spec
    (λ c. search rules) returns (λ c κs. search rules) (λ c. search rules) element-requires (λ c κs. search rules) (λ c. search rules) (λ c. search rules)
    returns-2)
