-- `write_round` meets its contract.
use mathlib.Core.Path.{◌≡◌, sym, ◌∙◌}
use mathlib.Core.Bool.{Bool, true, false, ◌&&◌}
use Prim.Native.Nat.{ℕ, ◌<◌}
use native.Mathlib.Omega.{arith}
use borrow.Author.Rules.{rules}
use borrow.Author.Tests.{ltb-true}
use lib.Dec.{ltb}
use lib.ListN.{get_or}
use Rattle.sets.proofs.Bools.{and_l, and_r}
use Rattle.stricter_laws.specs.Tests.{accepts_in}
use Rattle.stricter_laws.proofs.Expand.{searchable-paired}
use Rattle.stricter_laws.proofs.Pairs.{step-lettered, kind-low}
use Rattle.stricter_laws.proofs.Routes.{back_some}
use Rattle.stricter_word.proofs.Turns.{searchable-fits, no-round}
use Rattle.stricter_word.proofs.lasso.write_round.Statement.{statement}
use Rattle.stricter_word.proofs.lasso.write_round.Tie as tie

abbrev start-of-at-serves : tie.After-serves → tie.Start
start-of-at-serves c = search

abbrev at-explore-of-else2 : tie.Else-not-serves-2 → tie.After-explore
at-explore-of-else2 c = search

explore-requires : tie.Need-explore-requires
explore-requires c κs = let start : tie.Start = search in let a = start.args in let p = start.requires in (searchable-fits a.marks.now p.0 p.1 p.2, p.3)

serves-requires : tie.Need-serves-requires
serves-requires c κs =
    let start : tie.Start = search in let p = start.requires in let at-explore : tie.After-explore = search in let e = at-explore.explore.ensures in
    (e.same.long ∙ p.2, omega (arith, p.3, e.same.long))

returns : tie.Need-returns-then-not-serves
returns c = let at-explore : tie.After-explore = search in no-round _ at-explore.explore.ensures.same

serves-requires-2 : tie.Need-serves-requires-2
serves-requires-2 c κs =
    let start : tie.Start = search in let p = start.requires in let at-explore : tie.After-explore = search in let e = at-explore.explore.ensures in
    (e.same.long ∙ p.2, omega (arith, p.3, e.same.long))

returns-2 : tie.Need-returns-then-not-serves-2
returns-2 c = let at-explore : tie.After-explore = search in no-round _ at-explore.explore.ensures.same

-- a test that is passed by a node that is met
met_by : (v : ℕ) (b r : Bool) → r ≡ (ltb 1 v && b) → r ≡ true → 1 < v
met_by v b r e t = ltb-true 1 v (and_l (ltb 1 v) b (sym e ∙ t))

passed-by : (v : ℕ) (b r : Bool) → r ≡ (ltb 1 v && b) → r ≡ true → b ≡ true
passed-by v b r e t = and_r (ltb 1 v) b (sym e ∙ t)

way-length-requires : tie.Need-way_length-n-requires
way-length-requires c κs =
    let start : tie.Start = search in let a = start.args in let p = start.requires in let at-explore : tie.After-explore = search in let x = at-explore.explore in let e = x.ensures in
    let one = accepts_in a.lcodes.now a.rcodes.now false in let at-serves : tie.After-serves = search in let else1 : tie.Else-not-serves = search in
    let marks = x.new.marks in (
      (p.0, p.1, e.same.long ∙ p.2),
      e.back a.start (met_by (get_or marks a.start 0) (one a.start) _ at-serves.serves.ensures
          else1.if-not-serves.false),
    )

write-way-requires : tie.Need-write_way-requires
write-way-requires c κs =
    let start : tie.Start = search in let p = start.requires in let at-explore : tie.After-explore = search in let e = at-explore.explore.ensures in
    let at-way-length : tie.After-way_length-n = search in let w = at-way-length.way_length-n.ensures in ((p.0, p.1, e.same.long ∙ p.2, omega (arith, p.4, w.0, e.same.long)), w.1)

returns-3 : tie.Need-returns
returns-3 c =
    let start : tie.Start = start-of-at-serves (search) in let a = start.args in let at-explore : tie.After-explore = at-explore-of-else2 (search) in let x = at-explore.explore in
    let e = x.ensures in let at-way-length : tie.After-way_length-n = search in let w = at-way-length.way_length-n.ensures in let one = accepts_in a.lcodes.now a.rcodes.now false in
    let two = accepts_in a.lcodes.now a.rcodes.now true in let p = start.requires in
    let some = back_some (step-lettered (searchable-paired p.0 p.1)) (kind-low _ _) a.start _ w.1 in let else2 : tie.Else-not-serves-2 = search in
    let at-serves2 : tie.After-serves-2 = search in let else1 : tie.Else-not-serves = search in let at-serves : tie.After-serves = search in let at-write-way : tie.After-write_way = search in
    let marks = x.new.marks in record {
      same = e.same;
      short = omega (arith, w.0, e.same.long);
      none = λ z. absurd (omega (arith, some, z));
      written = λ l. at-write-way.write_way.ensures;
      first = λ l. passed-by (get_or marks a.start 0) (one a.start) _ at-serves.serves.ensures else1.if-not-serves.false;
      second = λ l. passed-by (get_or marks a.start 0) (two a.start) _ at-serves2.serves-2.ensures else2.if-not-serves-2.false;
    }

pub write_round_spec : {M : Type 1} → statement M
write_round_spec = tie.close (tie.spec
    explore-requires serves-requires (λ c. search rules) returns serves-requires-2 (λ c. search rules) returns-2 way-length-requires write-way-requires
    (λ c. search rules) (λ c. search rules) returns-3)
