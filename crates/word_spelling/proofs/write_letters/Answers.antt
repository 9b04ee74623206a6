-- `word_spelling::write_letters` meets its contract: letter i is that of place i.
use Rattle.std.proofs.Common.{◌++◌, take, length-append, length-take, arith}
use Rattle.theory.specs.Word.{letter_at_lem}
use Rattle.word_spelling.proofs.Walks.{written_next}
use Rattle.word_spelling.proofs.write_letters.Goals as goal

pub loop-i-preserved : goal.loop-i-preserved
unfolding letter_at_lem
loop-i-preserved c = let a = c.args in let word = a.lead.now ++ a.cycle.now in let l = c.loop-i in
    rw l.invariant (written_next word (take a.n a.out.now) l.i c.letter_at.result (omega (arith, length-append a.lead.now a.cycle.now, length-take a.n a.out.now)) (omega arith) c.letter_at.ensures)
