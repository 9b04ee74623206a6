-- `mulgreddi_mixed_loop` meets its contract: its numbers are those of what the report answers, and the slice is the one that the report left.
use borrow.Author.Rules.{rules}
use mathlib.Core.Path.{◌∙◌, ap}
use Rattle.mulgreddi_answers.specs.Answers.{loop_answer}
use Rattle.mulgreddi.proofs.Told.{reported-first}
use Rattle.mulgreddi.proofs.loops.mulgreddi_mixed_loop.Statement.{statement}
use Rattle.mulgreddi.proofs.loops.mulgreddi_mixed_loop.Tie as tie

returns : tie.Need-returns
returns c =
    let at-mixed-loop : tie.After-mixed_loop = search in let m = at-mixed-loop.mixed_loop in let e = c.reported.ensures ∙ ap loop_answer m.ensures.0 in
    (e, (m.ensures.1.0, λ z. reported-first _ m.result _ c.reported.result _ m.ensures.0 e (m.ensures.1.1 z)))

pub mulgreddi_mixed_loop_spec : {M : Type 1} → statement M
mulgreddi_mixed_loop_spec = tie.close (tie.spec (λ c κs. search rules) (λ c κs. search rules) (λ c. search rules) returns)
