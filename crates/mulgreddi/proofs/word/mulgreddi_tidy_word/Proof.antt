-- `mulgreddi_tidy_word` meets its contract: its numbers are those of what tidying answers, and the slice is the one that it left.
use borrow.Author.Rules.{rules}
use mathlib.Core.Path.{◌∙◌, ap}
use Rattle.mulgreddi_answers.specs.Answers.{tidy_word_answer}
use Rattle.mulgreddi.proofs.word.mulgreddi_tidy_word.Statement.{statement}
use Rattle.mulgreddi.proofs.word.mulgreddi_tidy_word.Tie as tie

returns : tie.Need-returns
returns c = let at-tidy-word : tie.After-tidy_word = search in let t = at-tidy-word.tidy_word.ensures in (c.tidy_word-2.ensures ∙ ap tidy_word_answer t.answered, (t.written, t.meant))

pub mulgreddi_tidy_word_spec : {M : Type 1} → statement M
mulgreddi_tidy_word_spec = tie.close (tie.spec (λ c κs. search rules) (λ c κs. search rules) (λ c. search rules) returns)
