-- `word_spelling::write_letters` meets its contract: the first i letters are written.
use Rattle.std.proofs.Common.{◌≡◌, ◌++◌, take, drop}
use Rattle.word_spelling.proofs.write_letters.Given as goal

abbrev pub invariant-loop-i : goal.invariant-loop-i
invariant-loop-i l = l.x-items ≡ take l.i (l.lead ++ l.cycle) ++ drop l.i l.initial.x-items
