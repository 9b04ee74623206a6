-- `listing_text::lines::put_table` meets its contract: line one, the names, the macrostates, the transitions.
use native.Mathlib.Omega.{arith}
use borrow.Author.Rules.{rules}
use Rattle.listing_lines_spec.specs.Lines.{initial_at, table_text}
use Rattle.listing_lines_spec.proofs.Lengths.{table-length}
use Rattle.slice_text.proofs.Puts.{put_then}
use Rattle.listing_text.proofs.lines.put_table.Statement.{statement}
use Rattle.listing_text.proofs.lines.put_table.Tie as tie

put-built-requires : tie.Need-put_built-a-requires
put-built-requires c κs = let start : tie.Start = search in let a = start.args in omega (arith, table-length (initial_at a.initial) a.names.now a.list.now a.transitions.now)

put-names-requires : tie.Need-put_names-b-requires
put-names-requires c κs = let start : tie.Start = search in let a = start.args in omega (arith, table-length (initial_at a.initial) a.names.now a.list.now a.transitions.now)

put-macrostates-requires : tie.Need-put_macrostates-c-requires
put-macrostates-requires c κs =
    let start : tie.Start = search in let a = start.args in (start.requires.0, omega (arith, table-length (initial_at a.initial) a.names.now a.list.now a.transitions.now))

put-transitions-requires : tie.Need-put_transitions-requires
put-transitions-requires c κs =
    let start : tie.Start = search in let a = start.args in omega (arith, table-length (initial_at a.initial) a.names.now a.list.now a.transitions.now)

returns : tie.Need-returns
unfolding table_text
returns c =
    let at-put-names : tie.After-put_names-b = search in let at-put-built : tie.After-put_built-a = search in let at-put-macrostates : tie.After-put_macrostates-c = search in
    let at-put-transitions : tie.After-put_transitions = search in put_then at-put-built.put_built-a.ensures
    (put_then at-put-names.put_names-b.ensures
    (put_then at-put-macrostates.put_macrostates-c.ensures at-put-transitions.put_transitions.ensures))

pub put_table_spec : {M : Type 1} → statement M
put_table_spec = tie.close (tie.spec put-built-requires put-names-requires put-macrostates-requires put-transitions-requires (λ c. search rules) returns)
