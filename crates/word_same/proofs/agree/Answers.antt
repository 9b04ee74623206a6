-- `word_same::agree` meets its contract: letters that agree are one step more, and letters that differ end it.
use Rattle.std.proofs.Common.{◌∙◌, refl, sym, arith}
use Rattle.sets.specs.Tests.{every}
use Rattle.theory.specs.Word.{place}
use Rattle.theory_laws.proofs.Places.{next-place-low}
use Rattle.word_same.proofs.Sameness.{place-next, step-agrees, step-differs, steps-end}
use Rattle.word_same.proofs.agree.Goals as goal

pub loop-init : goal.loop-init
unfolding every place
loop-init c = record { first = refl; first_low = omega arith; second = refl; second_low = omega arith; agree = refl }

pub returns-then-letter_at : goal.returns-then-letter_at
returns-then-letter_at c = let l = c.loop in
    sym (step-differs _ _ _ _ _ _ _ l.invariant.first l.invariant.second (omega arith) (λ e. c.if-letter_at.true (c.letter_at.ensures ∙ e ∙ sym c.letter_at-in-loop.ensures)))

pub loop-preserved : goal.loop-preserved
loop-preserved c = let a = c.args in let l = c.loop in let i = l.invariant in
    let e = c.next_place-p.ensures a.lead1.now a.cycle1.now refl refl in
    let f = c.next_place-q.ensures a.lead2.now a.cycle2.now refl refl in record {
      first = e ∙ place-next _ _ l.counter l.p i.first;
      first_low = rw e (next-place-low _ _ c.requires.cycle1_nonzero.0 l.p i.first_low);
      second = f ∙ place-next _ _ l.counter l.q i.second;
      second_low = rw f (next-place-low _ _ c.requires.cycle1_nonzero.1 l.q i.second_low);
      agree = step-agrees _ _ _ _ l.counter l.p l.q i.first i.second (sym c.letter_at.ensures ∙ c.if-letter_at.false ∙ c.letter_at-in-loop.ensures) i.agree;
    }

pub returns : goal.returns
returns c = sym (steps-end _ _ _ _ _ (omega arith) c.loop.invariant.agree)
