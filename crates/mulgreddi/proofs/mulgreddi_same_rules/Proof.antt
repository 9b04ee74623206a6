-- `mulgreddi_same_rules` meets its contract: its numbers are those of what the sameness test answers.
use borrow.Author.Rules.{rules}
use mathlib.Core.Path.{◌∙◌, ap}
use Rattle.mulgreddi_answers.specs.Answers.{same_rules_answer}
use Rattle.mulgreddi.proofs.mulgreddi_same_rules.Statement.{statement}
use Rattle.mulgreddi.proofs.mulgreddi_same_rules.Tie as tie

pub mulgreddi_same_rules_spec : {M : Type 1} → statement M
mulgreddi_same_rules_spec = tie.close (tie.spec
    (λ c κs. search rules) (λ c κs. search rules) (λ c. c.same_rules-2.ensures ∙ ap same_rules_answer c.before.same_rules.ensures))
