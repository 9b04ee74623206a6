-- `table_fixpoints::marks::mark_over` meets its contract.
use mathlib.Core.Path.{◌≡◌}
use native.Mathlib.Omega.{arith}
use borrow.Author.Rules.{rules}
use Rattle.theory.specs.Run.{source_of, letter_of_lem, target_of}
use Rattle.table_fixpoints_spec.proofs.Marking.{over_yes, over_no}
use Rattle.table_fixpoints.proofs.marks.mark_over.Statement.{statement}
use Rattle.table_fixpoints.proofs.marks.mark_over.Tie as tie

returns : tie.Need-returns-then-letter_of-letter
returns c = let start : tie.Start = search in let a = start.args in let other : letter_of_lem a.t ≡ a.letter → ⊥ = λ e. omega arith in
    over_no a.letter a.here a.there a.t a.marks.now other

returns-2 : tie.Need-returns
returns-2 c =
    let start : tie.Start = search in let a = start.args in let at_mark : tie.After-mark = search in let e = at_mark.mark.ensures in let at-source-of : tie.After-source_of = search in
    let source : at-source-of.source_of.result ≡ source_of a.t = at-source-of.source_of.ensures in let at-target-of : tie.After-target_of = search in
    let target : at-target-of.target_of.result ≡ target_of a.t = at-target-of.target_of.ensures in let same : letter_of_lem a.t ≡ a.letter = omega arith in
    let y = over_yes a.letter a.here a.there a.t a.marks.now same in (cc (y.0, e.0, source, target), cc (y.1, e.1, source, target))

pub mark_over_spec : {M : Type 1} → statement M
mark_over_spec = tie.close (tie.spec
    (λ c κs. search rules) returns (λ c κs. search rules) (λ c. search rules) (λ c κs. search rules) (λ c. search rules) (λ c κs. search rules)
    (λ c. search rules) returns-2)
