-- `table_runs::thin` meets its contract: not at all, or raised, pruned, flagged.
use mathlib.Core.Path.{◌∙◌}
use native.Mathlib.Omega.{arith}
use lib.ListN.{length}
use borrow.Author.Rules.{rules}
use Rattle.table_fixpoints_spec.proofs.Places.{fits-long}
use Rattle.table_runs.proofs.Thinning.{raised-two, thinned-none, thinned}
use Rattle.table_runs.proofs.thin.Statement.{statement}
use Rattle.table_runs.proofs.thin.Tie as tie

returns : tie.Need-returns-then-round-eq1
returns c = let start : tie.Start = search in let begun = start.requires.1 in thinned-none (λ e. absurd (omega arith)) begun

returns-2 : tie.Need-returns-then-round-eq2
returns-2 c = let start : tie.Start = search in let begun = start.requires.1 in thinned-none (λ e. absurd (omega arith)) begun

prune-requires : tie.Need-prune-requires
prune-requires c κs =
    let at-raise : tie.After-raise = search in let r = at-raise.raise.ensures in let at_count : tie.After-count-n = search in let n = at_count.count-n.ensures in
    let start : tie.Start = search in rw n (fits-long r.long start.requires.0, raised-two r)

flag-requires : tie.Need-flag-requires
flag-requires c κs =
    let start : tie.Start = search in let a = start.args in let fits = start.requires.0 in let at-raise : tie.After-raise = search in let r = at-raise.raise.ensures in
    let at-prune : tie.After-prune = search in let p = at-prune.prune.ensures in (length a.cycle.now, p.long ∙ r.long ∙ fits.marked)

returns-3 : tie.Need-returns
returns-3 c =
    let at_count : tie.After-count-n = search in let n = at_count.count-n.ensures in let at-raise : tie.After-raise = search in let r = at-raise.raise.ensures in
    let at-prune : tie.After-prune = search in let p = at-prune.prune.ensures in let at_flag : tie.After-flag = search in thinned r (rw n at p) at_flag.flag.ensures

pub thin_spec : {M : Type 1} → statement M
thin_spec = tie.close (tie.spec returns returns-2 (λ c κs. search rules) (λ c κs. search rules) prune-requires flag-requires (λ c. search rules) returns-3)
