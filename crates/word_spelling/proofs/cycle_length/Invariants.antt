-- `word_spelling::cycle_length` meets its contract: no length below d serves.
use Rattle.word_spelling.proofs.Walks.{NoneTo}
use Rattle.word_spelling.proofs.cycle_length.Given as goal

abbrev pub invariant-loop-d : goal.invariant-loop-d
invariant-loop-d l = NoneTo l.cycle l.d
