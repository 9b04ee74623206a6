-- `rule_tidy::keep` meets its contract: the clause is dropped, or put after those kept.
use mathlib.Core.Path.{sym, ◌∙◌}
use native.Mathlib.Omega.{arith}
use borrow.Author.Rules.{rules}
use lib.Seq.{length-take-le}
use Rattle.rule_tidy.proofs.Laws.{kept-drop, kept_put}
use Rattle.rule_tidy.proofs.keep.Statement.{statement}
use Rattle.rule_tidy.proofs.keep.Tie as tie

slice-aggregate-is-dropped : tie.Need-slice_bounds-is_dropped-end-2
slice-aggregate-is-dropped c = let start : tie.Start = search in let a = start.args in sym (length-take-le a.k a.out.now (omega arith))

pub keep_spec : {M : Type 1} → statement M
keep_spec = tie.close (tie.spec
    (λ c. search rules) slice-aggregate-is-dropped (λ c κs. search rules) (λ c. search rules) (λ c. kept-drop _ _ _ _ (sym c.before.is_dropped.ensures ∙ c.if-is_dropped.true))
    (λ c. search rules) (λ c. search rules) (λ c. search rules) (λ c. kept_put _ _ _ _ (omega arith) (sym c.before.is_dropped.ensures ∙ c.if-is_dropped.false)))
