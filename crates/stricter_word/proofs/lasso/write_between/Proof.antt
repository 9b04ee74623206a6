-- `write_between` meets its contract.
use mathlib.Core.Path.{◌∙◌}
use native.Mathlib.Omega.{arith}
use borrow.Author.Rules.{rules}
use Rattle.stricter_laws.proofs.Expand.{searchable-paired}
use Rattle.stricter_laws.proofs.Pairs.{step-lettered, kind-low}
use Rattle.stricter_laws.proofs.Reach.{explored-meets}
use Rattle.stricter_laws.proofs.Routes.{back_some}
use Rattle.stricter_word.proofs.Turns.{searchable-fits}
use Rattle.stricter_word.proofs.lasso.write_between.Statement.{statement}
use Rattle.stricter_word.proofs.lasso.write_between.Tie as tie

explore-requires : tie.Need-explore-requires
explore-requires c κs = let start : tie.Start = search in let a = start.args in let p = start.requires.0 in (searchable-fits a.marks.now p.0 p.1 p.2, p.3)

way-length-requires : tie.Need-way_length-n-requires
way-length-requires c κs =
    let start : tie.Start = search in let a = start.args in let p = start.requires.0 in let at-explore : tie.After-explore = search in let e = at-explore.explore.ensures in
    ((p.0, p.1, e.same.long ∙ p.2), e.back a.to (explored-meets e start.requires.1))

write-way-requires : tie.Need-write_way-requires
write-way-requires c κs =
    let start : tie.Start = search in let p = start.requires.0 in let at-explore : tie.After-explore = search in let e = at-explore.explore.ensures in
    let at-way-length : tie.After-way_length-n = search in
    ((p.0, p.1, e.same.long ∙ p.2, omega (arith, p.4, at-way-length.way_length-n.ensures.0, e.same.long)), at-way-length.way_length-n.ensures.1)

returns : tie.Need-returns
returns c =
    let start : tie.Start = search in let a = start.args in let p = start.requires.0 in let at-explore : tie.After-explore = search in let e = at-explore.explore.ensures in
    let at-write-way : tie.After-write_way = search in let at-way-length : tie.After-way_length-n = search in record {
      same = e.same;
      written = at-write-way.write_way.ensures;
      some = back_some
          (step-lettered (searchable-paired p.0 p.1)) (kind-low _ _) a.from _ at-way-length.way_length-n.ensures.1;
      short = omega (arith, at-way-length.way_length-n.ensures.0, e.same.long);
    }

pub write_between_spec : {M : Type 1} → statement M
write_between_spec = tie.close (tie.spec explore-requires way-length-requires write-way-requires (λ c. search rules) (λ c. search rules) returns)
