-- `word_spelling::comes_again` meets its contract: the letters so far come again, and `later` is the place d steps on.
use Rattle.std.proofs.Common.{◌≡◌, ◌<◌, length}
use Rattle.word_spelling.proofs.Walks.{AgainTo, later_of}
use Rattle.word_spelling.proofs.comes_again.Given as goal

abbrev pub invariant-loop-x : goal.invariant-loop-x
invariant-loop-x l = record {
  low : l.later < length l.cycle;
  place : l.later ≡ later_of l.cycle l.d l.x-index;
  again : AgainTo l.cycle l.d l.x-index;
}
