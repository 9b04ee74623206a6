-- `rule_tidy::tidy_rule` meets its contract: the clauses of a well-formed rule are over its states.
use Prim.Native.Nat.{ℕ}
use mathlib.Core.Path.{◌∙◌, ap}
use mathlib.Core.List.{List}
use borrow.Author.Rules.{rules}
use lib.ListN.{length}
use Rattle.rule_tidy_spec.specs.Tidy.{tidy_rule_lem}
use Rattle.rule_tidy_spec.proofs.Eight.{counts-eight, clauses-eight}
use Rattle.rule_tidy.specs.Filled.{filled}
use Rattle.rule_tidy.proofs.tidy_rule.Statement.{statement}
use Rattle.rule_tidy.proofs.tidy_rule.Tie as tie

returns : tie.Need-returns
unfolding tidy_rule_lem
returns c =
    let start : tie.Start = search in let a = start.args in let w = start.requires.0 in let at-tidy-lists : tie.After-tidy_lists = search in let t = at-tidy-lists.tidy_lists.ensures in
    let e = counts-eight a.h.n w.few_states a.counts.now a.clauses.now w.clause_states in
    let f = clauses-eight a.h.n w.few_states a.counts.now a.clauses.now w.clause_states in (
      t.0 ∙ ap length f,
      (t.1.0 ∙ ap (λ (x : List ℕ). filled x a.counts2.now) e, t.1.1 ∙ ap (λ (x : List ℕ). filled x a.clauses2.now) f),
    )

pub tidy_rule_spec : {M : Type 1} → statement M
tidy_rule_spec = tie.close (tie.spec (λ c κs. search rules) (λ c. search rules) (λ c. search rules) returns)
