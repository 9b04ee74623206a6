-- `mulgreddi_translate` meets its contract: its numbers are those of what the translation answers, and the slice is the one that it left.
use borrow.Author.Rules.{rules}
use mathlib.Core.Path.{◌∙◌, ap}
use Rattle.mulgreddi_answers.specs.Answers.{translated_answer}
use Rattle.mulgreddi.proofs.event.mulgreddi_translate.Statement.{statement}
use Rattle.mulgreddi.proofs.event.mulgreddi_translate.Tie as tie

returns : tie.Need-returns
returns c = let at-translate : tie.After-translate = search in let t = at-translate.translate.ensures in (c.translated.ensures ∙ ap translated_answer t.0, t.1)

pub mulgreddi_translate_spec : {M : Type 1} → statement M
mulgreddi_translate_spec = tie.close (tie.spec (λ c κs. search rules) (λ c κs. search rules) (λ c. search rules) returns)
