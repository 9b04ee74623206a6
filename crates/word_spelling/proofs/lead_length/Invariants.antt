-- `word_spelling::lead_length` meets its contract: the letters from i on are in the cycle.
use Rattle.std.proofs.Common.{◌≡◌, length}
use Rattle.theory.specs.Word.{letters}
use Rattle.word_spelling_spec.specs.SpellingComputed.{shortened}
use Rattle.word_spelling.proofs.lead_length.Given as goal

abbrev pub invariant-loop-i : goal.invariant-loop-i
invariant-loop-i l = shortened (letters l.lead l.cycle) l.p (length l.lead) ≡ shortened (letters l.lead l.cycle) l.p l.i
