-- `search_pairs` meets its contract: where no start pair is left there is no word, else one begins there.
use mathlib.Core.Path.{refl}
use native.Mathlib.Omega.{arith}
use borrow.Author.Rules.{rules}
use Rattle.stricter_search.proofs.search_pairs.Statement.{statement}
use Rattle.stricter_search.proofs.search_pairs.Tie as tie

shared-word-requires : tie.Need-shared_word-requires
shared-word-requires c κs =
    let start : tie.Start = search in let p = start.requires in let (s, t, S) = p.2 in let else1 : tie.Else-marks-start = search in
    (p.0, p.1, S.long, p.3, S.inside (omega (arith, else1.if-marks-start.false)), S.sound (omega (arith, else1.if-marks-start.false)))

returns-2 : tie.Need-returns
returns-2 c =
    let else1 : tie.Else-marks-start = search in let at-shared-word : tie.After-shared_word = search in λ s t S. at-shared-word.shared_word.ensures s t (S.begins (omega (arith, else1.if-marks-start.false)))

pub search_pairs_spec : {M : Type 1} → statement M
search_pairs_spec = tie.close (tie.spec
    (λ c s t S. (refl, S.none (omega (arith, c.if-marks-start.true)))) shared-word-requires (λ c. search rules) (λ c. search rules) returns-2)
