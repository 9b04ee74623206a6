-- `table_runs::fill_cycle` meets its contract: all nodes are in, and then solved.
use lib.ListN.{length, get_or-replicate}
use Rattle.table_lent.specs.Lent.{in_both}
use Rattle.table_fixpoints_spec.proofs.Places.{fits-long}
use Rattle.table_runs.proofs.Cycles.{all_two, solution}
use borrow.Author.Rules.{rules}
use Rattle.table_runs.proofs.fill_cycle.Statement.{statement}
use Rattle.table_runs.proofs.fill_cycle.Tie as tie

solve-requires : tie.Need-solve-requires
solve-requires c κs =
    let start : tie.Start = search in let a = start.args in let at-fill-with : tie.After-fill_with = search in let w = at-fill-with.fill_with in
    (fits-long w.auto.xs start.requires, rw w.ensures (all_two (length a.marks.now)))

returns : tie.Need-returns
returns c =
    let start : tie.Start = search in let a = start.args in let q = start.requires in let at-fill-with : tie.After-fill_with = search in let w = at-fill-with.fill_with in
    let at-solve : tie.After-solve = search in let s = at-solve.solve in
    solution (in_both a.codes.now a.codebytes.now).numbers (in_both a.moves.now a.movebytes.now).numbers a.cycle.now
    q.repeats q.sources q.targets w.new.xs _
    (λ x l. rw w.ensures (get_or-replicate (length a.marks.now) x 2 0 (rw q.marked l))) s.ensures

pub fill_cycle_spec : {M : Type 1} → statement M
fill_cycle_spec = tie.close (tie.spec (λ c κs. search rules) solve-requires (λ c. search rules) returns)
