-- `build_visit::initial::visit_first` meets its contract.
use mathlib.Core.Path.{sym, ◌∙◌}
use borrow.Author.Rules.{rules}
use Rattle.sets.proofs.Bools.{clash}
use Rattle.build_spec.proofs.Appended.{appended-none, appended-as}
use Rattle.build_spec.proofs.Starting.{few, initial-low, vector-low, start_is, first-is, first-low}
use Rattle.build_visit.proofs.initial.visit_first.Statement.{statement}
use Rattle.build_visit.proofs.initial.visit_first.Tie as tie

abbrev at-core-of-of-at-admit-arg3 : tie.After-admit-arg-3-1 → tie.After-core_of-core
at-core-of-of-at-admit-arg3 c = search

returns : tie.Need-returns-then-not-begins
returns c = let start : tie.Start = search in let p = start.requires in
    λ r S. appended-none p.1 (λ y f. absurd (clash f.1.start (sym (start_is S start.args.ranks p.2) ∙ sym c.before.begins.ensures ∙ c.if-not-begins.true)))

returns-2 : tie.Need-returns-then-not-is_core
returns-2 c = let start : tie.Start = search in λ r S. appended-none start.requires.1 (λ y f. absurd (clash f.0.passes (sym c.before.is_core.ensures ∙ c.if-not-is_core.true)))

core-of-requires : tie.Need-core_of-core-requires
core-of-requires c κs = let start : tie.Start = search in let p = start.requires in vector-low p.0.1 start.args.ranks p.2

admit-requires : tie.Need-admit-requires
admit-requires c κs =
    let start : tie.Start = search in let p = start.requires in let at-lowest : tie.After-lowest-low = search in let low = at-lowest.lowest-low in let at-core-of : tie.After-core_of-core = search in
    (p.1, first-low p.0.1 start.args.ranks p.2 low.result low.ensures at-core-of.core_of-core.ensures)

returns-3 : tie.Need-returns
returns-3 c =
    let start : tie.Start = search in let ranks = start.args.ranks in let p = start.requires in let at-lowest : tie.After-lowest-low = search in let low = at-lowest.lowest-low in
    let at-is-core : tie.After-is_core = search in let at-begins : tie.After-begins = search in let at-core-of : tie.After-core_of-core = at-core-of-of-at-admit-arg3 (search) in
    let at-admit : tie.After-admit = search in
    λ r S. let is = first-is S ranks p.2 low.result low.ensures at-core-of.core_of-core.ensures in
    appended-as at-admit.admit.ensures (λ t y f. f.1.key ∙ sym is) (λ y e. (
      record { within = p.2; passes = sym at-is-core.is_core.ensures ∙ at-lowest.before.if-not-is_core.false },
      record { start = sym (start_is S ranks p.2) ∙ sym at-begins.begins.ensures ∙ at-is-core.before.if-not-begins.false; key = e ∙ is },
    ))

pub visit_first_spec : {M : Type 1} → statement M
visit_first_spec = tie.close (tie.spec
    (λ c κs. initial-low c.before.requires.0.1) returns (λ c κs. let start : tie.Start = search in few start.requires.0.1) returns-2 (λ c κs. search rules)
    (λ c. search rules) core-of-requires admit-requires (λ c. search rules) returns-3)
