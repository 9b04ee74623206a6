-- `word_spelling::lead_length` meets its contract: a letter that comes again p places on goes over to the cycle, and one that does not ends it.
use Rattle.std.proofs.Common.{◌≡◌, ◌+◌, ◌-◌, ◌<◌, ◌∙◌, sym, arith}
use Rattle.theory.specs.Word.{places}
use Rattle.word_spelling_spec.specs.SpellingComputed.{shortened}
use Rattle.word_spelling.proofs.Walks.{shorter, shortest}
use Rattle.word_spelling.proofs.lead_length.Goals as goal

pub returns-then-letter_at : goal.returns-then-letter_at
returns-then-letter_at c = let l = c.loop-i in let a = c.args in
    let fits : l.i - 1 + a.p < places a.lead.now a.cycle.now = omega arith in
    let whole : l.i - 1 + 1 ≡ l.i = omega arith in
    whole ∙ sym (l.invariant ∙ shortest _ _ c.requires.0 _ _ (omega arith) fits (λ e. c.if-letter_at.true (c.letter_at.ensures ∙ e ∙ sym c.letter_at-in-loop-i.ensures)))

pub loop-i-preserved : goal.loop-i-preserved
loop-i-preserved c = let l = c.loop-i in let a = c.args in
    let fits : l.i - 1 + a.p < places a.lead.now a.cycle.now = omega arith in
    l.invariant ∙ shorter _ _ c.requires.0 _ _ (omega arith) fits (sym c.letter_at.ensures ∙ c.if-letter_at.false ∙ c.letter_at-in-loop-i.ensures)

pub returns : goal.returns
unfolding shortened
returns c = let e : c.loop-i.i ≡ 0 = omega arith in sym (rw e at c.loop-i.invariant)
