-- `search_tables` meets its contract: the tables are those of the rules, and what the search finds says whether A is stricter than B.
use mathlib.Core.Path.{sym, ap₂}
use borrow.Author.Rules.{rules}
use Prim.Native.Nat.{ℕ, ◌*◌}
use lib.Seq.{length-take-le}
use Rattle.build_spec.specs.Keys.{start_of}
use Rattle.stricter.proofs.Rooms.{codes-fit, moves-fit, held-lists}
use Rattle.stricter.proofs.Searching.{told-yes, told-no, searched}
use Rattle.stricter.proofs.search_tables.Statement.{statement}
use Rattle.stricter.proofs.search_tables.Tie as tie

slice-aggregate-search : tie.Need-slice_bounds-search-end-2
slice-aggregate-search c = let start : tie.Start = search in sym (length-take-le _ _ (codes-fit start.requires.0))

slice-aggregate-search-2 : tie.Need-slice_bounds-search-end-4
slice-aggregate-search-2 c = let start : tie.Start = search in sym (length-take-le _ _ (moves-fit start.requires.0))

slice-aggregate-search-3 : tie.Need-slice_bounds-search-end-6
slice-aggregate-search-3 c = let start : tie.Start = search in sym (length-take-le _ _ (codes-fit start.requires.1))

slice-aggregate-search-4 : tie.Need-slice_bounds-search-end-8
slice-aggregate-search-4 c = let start : tie.Start = search in sym (length-take-le _ _ (moves-fit start.requires.1))

search-requires : tie.Need-search-requires
unfolding start_of
search-requires c κs =
    let start : tie.Start = search in let a = start.args in let p = start.requires in let n = length-take-le a.x.counts.macrostates a.acodes.now (codes-fit p.0) in
    let m = length-take-le a.y.counts.macrostates a.bcodes.now (codes-fit p.1) in let e = ap₂ (λ (i j : ℕ). i * j) n m in
    (held-lists p.0, held-lists p.1, rw e p.3, rw e p.4)

returns : tie.Need-returns-in-Nothing
returns c =
    let start : tie.Start = search in let p = start.requires in let s = c.search.ensures in
    let ((acodes, amoves), ((bcodes, bmoves), scratch)) = s.1 in
    searched p.0 p.1 (told-yes p.0 p.1 p.2 (rw c.in-Nothing.is at s.0)) acodes amoves bcodes bmoves scratch

returns-2 : tie.Need-returns-in-Word
returns-2 c =
    let start : tie.Start = search in let p = start.requires in let s = c.search.ensures in
    let ((acodes, amoves), ((bcodes, bmoves), scratch)) = s.1 in
    searched p.0 p.1 (told-no p.0 p.1 p.2 (rw c.in-Word.is at s.0)) acodes amoves bcodes bmoves scratch

pub search_tables_spec : {M : Type 1} → statement M
search_tables_spec = tie.close (tie.spec
    (λ c. let start : tie.Start = search in codes-fit start.requires.0) slice-aggregate-search (λ c. let start : tie.Start = search in moves-fit start.requires.0)
    slice-aggregate-search-2 (λ c. let start : tie.Start = search in codes-fit start.requires.1) slice-aggregate-search-3
    (λ c. let start : tie.Start = search in moves-fit start.requires.1) slice-aggregate-search-4 search-requires (λ c. search rules) (λ c. search rules) (λ c. search rules)
    (λ c. search rules) (λ c. search rules) (λ c. search rules) (λ c. search rules) (λ c. search rules) returns (λ c. search rules) (λ c. search rules) (λ c. search rules)
    (λ c. search rules) (λ c. search rules) (λ c. search rules) returns-2)
