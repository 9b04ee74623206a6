-- `write_letters` meets its contract: the first k letters are written.
use Rattle.std.proofs.Common.{◌≡◌, ◌++◌, take, drop}
use Rattle.event_spec.specs.Events.{letters_of}
use Rattle.event_translate.proofs.log.write_letters.Given as goal

abbrev pub invariant-loop-k : goal.invariant-loop-k
invariant-loop-k l = l.letters ≡ take l.k (letters_of l.events l.log) ++ drop l.k l.fn.letters
