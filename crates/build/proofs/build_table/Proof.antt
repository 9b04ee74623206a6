-- `build_table` meets its contract: row 17 by the codes, then row 18 by the transitions.
use native.Mathlib.Omega.{arith}
use Rattle.build.proofs.Making.{made-17, made-18, made_table, codes-listed}
use borrow.Author.Rules.{rules}
use Rattle.build.proofs.build_table.Statement.{statement}
use Rattle.build.proofs.build_table.Tie as tie

returns : tie.Need-returns-then-g
returns c =
    let then1 : tie.Then-g = search in let at-list-codes : tie.After-list_codes-g = search in let at-zero-all : tie.After-zero_all = search in let at-zero-all2 : tie.After-zero_all-then-g = search in
    λ r T. made-17 then1.if-g.true (at-list-codes.list_codes-g.ensures r T)
    at-zero-all.zero_all.ensures at-zero-all2.zero_all-then-g.ensures

list-transitions-requires : tie.Need-list_transitions-e-requires
list-transitions-requires c κs =
    let start : tie.Start = search in let p = start.requires in let at-list-codes : tie.After-list_codes-g = search in let g = at-list-codes.list_codes-g in let else1 : tie.Else-g = search in
    (p.0, p.1, codes-listed p.0 start.args.shape.holds else1.if-g.false (g.ensures p.0 p.1))

returns-2 : tie.Need-returns-then-e
returns-2 c =
    let at-list-codes : tie.After-list_codes-g = search in let g = at-list-codes.list_codes-g.ensures in let at-list-transitions : tie.After-list_transitions-e = search in
    let e = at-list-transitions.list_transitions-e.ensures in let then2 : tie.Then-e = search in let else1 : tie.Else-g = search in let start : tie.Start = search in
    let at-zero-all4 : tie.After-zero_all-then-e-2 = search in
    -- a path, since `rw` abstracts no place that an abbreviation gives and `search` does not reach so far
    let at-zero-all3 = c.before.before.before.before.before.before in
    λ r T. let C = codes-listed r start.args.shape.holds else1.if-g.false (g r T) in
    made-18 (g r T) (e.1 r T C) else1.if-g.false then2.if-e.true
    (rw e.0 at at-zero-all3.zero_all-then-e.ensures) at-zero-all4.zero_all-then-e-2.ensures

returns-3 : tie.Need-returns
returns-3 c =
    let at-list-codes : tie.After-list_codes-g = search in let g = at-list-codes.list_codes-g.ensures in let at-list-transitions : tie.After-list_transitions-e = search in
    let e = at-list-transitions.list_transitions-e.ensures in let else1 : tie.Else-g = search in let start : tie.Start = search in
    λ r T. let C = codes-listed r start.args.shape.holds else1.if-g.false (g r T) in
    rw e.0 (made_table (g r T) (e.1 r T C) else1.if-g.false c.if-e.false (omega arith) (omega arith))

pub build_table_spec : {M : Type 1} → statement M
build_table_spec = tie.close (tie.spec
    (λ c κs. search rules) (λ c κs. search rules) (λ c κs. search rules) (λ c. search rules) (λ c. search rules) returns list-transitions-requires
    (λ c κs. search rules) (λ c κs. search rules) (λ c. search rules) (λ c. search rules) returns-2 (λ c. search rules) (λ c. search rules) returns-3)
