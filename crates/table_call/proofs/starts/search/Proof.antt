-- `table_call::starts::search` meets its contract.
use mathlib.Core.Path.{refl}
use native.Mathlib.Omega.{arith}
use lib.ListN.{length}
use Rattle.sets.specs.Masks.{bit}
use Rattle.table_lent.specs.Lent.{in_both}
use Rattle.table_call.proofs.Lowest.{earliest}
use Rattle.table_runs.proofs.Parts.{cycle-room}
use borrow.Author.Rules.{rules}
use Rattle.table_call.proofs.starts.search.Statement.{statement}
use Rattle.table_call.proofs.starts.search.Tie as tie

lowest-start-requires : tie.Need-lowest_start-requires
lowest-start-requires c κs =
    let start : tie.Start = search in let a = start.args in let p = start.requires in let n = length (in_both a.codes.now a.codebytes.now).numbers in
    let at_fill : tie.After-fill = search in (
      p.0,
      omega (
        arith,
        cycle-room (length a.lead.now) (length a.cycle.now) n n (length a.marks.now) refl p.1.marked p.1.repeats,
        at_fill.fill.auto,
      ),
    )

returns : tie.Need-returns
returns c = let start : tie.Start = search in let a = start.args in let at_fill : tie.After-fill = search in
    earliest (λ x. bit x a.initial) _ _ _ _ _ at_fill.fill.ensures _ c.lowest_start.ensures

pub search_spec : {M : Type 1} → statement M
search_spec = tie.close (tie.spec (λ c κs. search rules) lowest-start-requires (λ c. search rules) returns)
