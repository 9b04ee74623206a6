-- What the build of the words that a rule rejects promises of a file.
use Rattle.std.specs.Prelude.{List, ℕ}
use Rattle.std.specs.Prelude.{Result, Ok, Err}
use Rattle.refusals.specs.declared.Refusal.{Refusal}
use Rattle.build.specs.declared.Counts.{Counts}
use Rattle.theory.specs.Sequence.{RejectsSequence}
use Rattle.build.specs.Entry.{FileBuilt}
use Rattle.rejecting_spec.specs.Rejecting.{lacks_initial, RejectsWord}

-- its runs begin where the set lacks the initial state, and its automaton accepts the words and the sequences that the rule rejects
abbrev pub RejectingBuilt : List ℕ → List ℕ → List ℕ → Result Counts Refusal → List ℕ → List ℕ → Type 0
RejectingBuilt = FileBuilt lacks_initial RejectsWord RejectsSequence
