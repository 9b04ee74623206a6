-- `mulgreddi_write` meets its contract: its numbers are those of what the writer answers, and the slice is the one that the writer left.
use borrow.Author.Rules.{rules}
use mathlib.Core.Path.{◌∙◌, ap}
use Rattle.mulgreddi_answers.specs.Answers.{written_answer}
use Rattle.mulgreddi.proofs.mulgreddi_write.Statement.{statement}
use Rattle.mulgreddi.proofs.mulgreddi_write.Tie as tie

pub mulgreddi_write_spec : {M : Type 1} → statement M
mulgreddi_write_spec = tie.close (tie.spec
    (λ c κs. search rules) (λ c κs. search rules) (λ c. search rules)
    (λ c. let at-write-rule : tie.After-write_rule = search in let w = at-write-rule.write_rule.ensures in (c.written.ensures ∙ ap written_answer w.0, w.1)))
