-- `search_files` meets its contract: the pairs are sorted out, and the search goes on from there.
use mathlib.Core.Bool.{not}
use borrow.Author.Rules.{rules}
use Rattle.sets.specs.Masks.{bit}
use Rattle.stricter_search.proofs.Searched.{file-searchable}
use Rattle.stricter_search.proofs.search_files.Statement.{statement}
use Rattle.stricter_search.proofs.search_files.Tie as tie

search-pairs-requires : tie.Need-search_pairs-requires
search-pairs-requires c κs =
    let start : tie.Start = search in let a = start.args in let p = start.requires in
    let (marks, ((acodes, amoves), (bcodes, bmoves))) = c.mark_files-start.ensures in rw (acodes, amoves, bcodes, bmoves) (
      file-searchable p.0,
      file-searchable p.1,
      ((λ x. bit x a.l.head.initial), (λ x. not (bit x a.m.head.initial)), marks),
      p.3,
    )

returns : tie.Need-returns
returns c =
    let start : tie.Start = search in let a = start.args in let (marks, ((acodes, amoves), (bcodes, bmoves))) = c.mark_files-start.ensures in
    let at-search-pairs : tie.After-search_pairs = search in let q = rw (acodes, amoves, bcodes, bmoves) at at-search-pairs.search_pairs.ensures in
    (q (λ x. bit x a.l.head.initial) (λ x. not (bit x a.m.head.initial)) marks, ((acodes, amoves), (bcodes, bmoves)))

pub search_files_spec : {M : Type 1} → statement M
search_files_spec = tie.close (tie.spec
    (λ c κs. search rules) search-pairs-requires (λ c. search rules) (λ c. search rules) (λ c. search rules) (λ c. search rules) (λ c. search rules)
    (λ c. search rules) returns)
