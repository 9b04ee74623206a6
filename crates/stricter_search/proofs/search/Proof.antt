-- `search` meets its contract.
use mathlib.Core.Path.{sym, ap, ◌∙◌}
use Prim.Native.Nat.{ℕ, ◌*◌}
use borrow.Author.Rules.{rules}
use lib.ListN.{length, replicate, length-replicate}
use lib.Seq.{length-take-le}
use Rattle.stricter_search.proofs.search.Statement.{statement}
use Rattle.stricter_search.proofs.search.Tie as tie

slice-aggregate-search-files : tie.Need-slice_bounds-search_files-end-2
slice-aggregate-search-files c =
    let start : tie.Start = search in let a = start.args in sym (length-take-le (length a.acodes.now * length a.bcodes.now) a.scratch.now start.requires.2)

search-files-requires : tie.Need-search_files-found-requires
search-files-requires c κs = let start : tie.Start = search in let a = start.args in let p = start.requires in
    (p.0, p.1, length-take-le (length a.acodes.now * length a.bcodes.now) a.scratch.now p.2, p.3)

same-length-6 : tie.Need-shape_of-scratch
same-length-6 c = search rules

returns : tie.Need-returns
returns c =
    let at-fill-with : tie.After-fill_with = search in let e = at-fill-with.fill_with.ensures in let at-search-files : tie.After-search_files-found = search in
    let s = at-search-files.search_files-found.ensures in let places = sym (simp length-replicate at (ap length e)) ∙ same-length-6 c in
    (s.0, (s.1.0, (s.1.1, e ∙ ap (λ (n : ℕ). replicate n 0) places)))

pub search_spec : {M : Type 1} → statement M
search_spec = tie.close (tie.spec
    (λ c. search rules) (λ c. search rules) slice-aggregate-search-files search-files-requires (λ c κs. search rules) (λ c. search rules) (λ c. search rules)
    (λ c. search rules) (λ c. search rules) (λ c. search rules) same-length-6 returns)
