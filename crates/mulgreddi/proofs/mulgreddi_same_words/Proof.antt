-- `mulgreddi_same_words` meets its contract: its numbers are those of what the sameness test answers.
use borrow.Author.Rules.{rules}
use mathlib.Core.Path.{◌∙◌, ap}
use Rattle.mulgreddi_answers.specs.Answers.{same_words_answer}
use Rattle.mulgreddi.proofs.mulgreddi_same_words.Statement.{statement}
use Rattle.mulgreddi.proofs.mulgreddi_same_words.Tie as tie

returns : tie.Need-returns
returns c = let s = c.before.same_words.ensures in (c.same_words-2.ensures ∙ ap same_words_answer s.answered, λ e. rw s.answered at (s.meant e))

pub mulgreddi_same_words_spec : {M : Type 1} → statement M
mulgreddi_same_words_spec = tie.close (tie.spec (λ c κs. search rules) (λ c κs. search rules) returns)
