-- `begin_set` meets its contract: the bytes before the index are those of the initial macrostates.
use Rattle.std.proofs.Common.{◌≡◌, ℕ, ◌∙◌, get_or, sym, ap, arith}
use Rattle.sets.specs.Masks.{bit}
use Rattle.sets.specs.Tests.{one}
use Rattle.sets.proofs.Walks.{put_next}
use Rattle.theory.specs.Macrostate.{begun}
use Rattle.table_lent.specs.Lent.{words_in}
use Rattle.table_lent.proofs.Reading.{words-in-length, words-in-at}
use Rattle.live_set.proofs.Sets.{initial-end}
use Rattle.live_set.proofs.begin_set.Goals as goal

pub word_at-requires : goal.word_at-requires
word_at-requires c = omega (arith, words-in-length c.args.codes.now)

pub overflow_mul-i : goal.overflow_mul-i
overflow_mul-i c = omega (arith, words-in-length c.args.codes.now)

pub loop-i-preserved : goal.loop-i-preserved
loop-i-preserved c =
    let code : c.word_at.result ≡ get_or (words_in c.args.codes.now) c.loop-i.i 0 =
    c.word_at.ensures ∙ sym (words-in-at c.args.codes.now c.loop-i.i (omega (arith, words-in-length c.args.codes.now))) in
    let f = λ (x : ℕ). one (begun (λ b. bit b c.args.initial) x) in
    put_next (λ j. f (get_or (words_in c.args.codes.now) j 0)) c.loop-i.set c.loop-i.i _ (omega arith) (c.first_byte.ensures ∙ ap f code) c.loop-i.invariant

pub returns : goal.returns
returns c = initial-end c.args.initial (words_in c.args.codes.now) c.loop-i.set (omega arith) (λ j k. c.loop-i.invariant j (omega arith))
