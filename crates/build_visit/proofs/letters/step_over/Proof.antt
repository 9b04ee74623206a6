-- `build_visit::letters::step_over` meets its contract.
use native.Mathlib.Omega.{arith}
use borrow.Author.Rules.{rules}
use Rattle.build_spec.proofs.Starting.{few, vector-low}
use Rattle.build_spec.proofs.Letters.{rises, ranks-fit, stepping}
use Rattle.build_visit.proofs.letters.step_over.Statement.{statement}
use Rattle.build_visit.proofs.letters.step_over.Tie as tie

step-back-requires : tie.Need-step_back-before-requires
step-back-requires c κs = let a = c.before.args in let p = c.before.requires in let T = p.0.1 in (few T.shaped, rises T a.at.letter p.3 p.1 a.low.now p.2)

earlier-core-requires : tie.Need-earlier_core-earlier-requires
earlier-core-requires c κs = let start : tie.Start = search in let a = start.args in let p = start.requires in let T = p.0.1 in
    (omega (arith, p.3, T.shaped.letters_are, T.table.few_letters), ranks-fit T a.at.letter p.3 p.1 a.low.now p.2 c.step_back-before.ensures)

core-of-requires : tie.Need-core_of-core-requires
core-of-requires c κs = let start : tie.Start = search in let p = start.requires in vector-low p.0.1.shaped start.args.at.ranks p.1.within

returns : tie.Need-returns
returns c =
    let start : tie.Start = search in let a = start.args in let p = start.requires in let at-step-back : tie.After-step_back-before = search in let at-earlier-core : tie.After-earlier_core-earlier = search in
    λ r T. stepping T a.at.letter p.3 p.1 a.low.now p.2 at-step-back.step_back-before.ensures c.before.core_of-core.ensures at-earlier-core.earlier_core-earlier.ensures

pub step_over_spec : {M : Type 1} → statement M
step_over_spec = tie.close (tie.spec (λ c. search rules) step-back-requires earlier-core-requires core-of-requires returns)
