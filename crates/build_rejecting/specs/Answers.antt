-- What the build of the words that a rule rejects answers, and what it leaves in the two lent slices: what the build does from its start condition.
use Rattle.std.specs.Prelude.{List, ℕ}
use Rattle.std.specs.Prelude.{Result, Ok, Err}
use Rattle.refusals.specs.declared.Refusal.{Refusal}
use Rattle.build.specs.declared.Counts.{Counts}
use Rattle.build.specs.Built.{row_from, built_from, codes_after_from, transitions_after_from}
use Rattle.rejecting_spec.specs.Rejecting.{lacks_initial}

-- the rows of the rule, then 17, then 18, by the table that is to be written
abbrev pub rejecting_row : List ℕ → ℕ → ℕ → ℕ
rejecting_row file codesLen movesLen = row_from lacks_initial file codesLen movesLen

-- the answer
abbrev pub rejecting_of : List ℕ → ℕ → ℕ → Result Counts Refusal
rejecting_of file codesLen movesLen = built_from lacks_initial file codesLen movesLen

-- the slice of codes afterwards
abbrev pub rejecting_codes_after : List ℕ → List ℕ → ℕ → List ℕ
rejecting_codes_after file codes movesLen = codes_after_from lacks_initial file codes movesLen

-- the slice of transitions afterwards
abbrev pub rejecting_transitions_after : List ℕ → ℕ → List ℕ → List ℕ
rejecting_transitions_after file codesLen moves = transitions_after_from lacks_initial file codesLen moves
