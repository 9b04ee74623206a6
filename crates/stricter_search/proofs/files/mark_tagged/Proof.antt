-- `mark_tagged` meets its contract.
use borrow.Author.Rules.{rules}
use Rattle.stricter_search.proofs.files.mark_tagged.Statement.{statement}
use Rattle.stricter_search.proofs.files.mark_tagged.Tie as tie

returns : tie.Need-returns
returns c =
    let at-untag : tie.After-untag = search in let d = at-untag.untag.ensures in let at-untag2 : tie.After-untag-2 = search in let f = at-untag2.untag-2.ensures in
    let at-mark-pairs : tie.After-mark_pairs-start = search in (at-mark-pairs.mark_pairs-start.ensures, ((d.0, d.1), (f.0, f.1)))

pub mark_tagged_spec : {M : Type 1} → statement M
mark_tagged_spec = tie.close (tie.spec
    (λ c κs. search rules) (λ c κs. search rules) (λ c κs. search rules) (λ c. search rules) (λ c. search rules) (λ c. search rules) (λ c. search rules)
    (λ c. search rules) returns)
