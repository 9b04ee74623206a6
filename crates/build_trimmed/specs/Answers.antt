-- What the trimmed build answers, and what it leaves in the two lent slices.
use Rattle.std.specs.Prelude.{List, ℕ, length}
use Rattle.std.specs.Prelude.{Result, Ok, Err}
use Rattle.refusals.specs.declared.Refusal.{Refusal}
use Rattle.build.specs.declared.Counts.{Counts}
use Rattle.file_spec.specs.File.{rule_in}
use Rattle.build.specs.Built.{build_row, built_by, slice_after}
use Rattle.trim_spec.specs.Trimmed.{trimmed_codes, trimmed_transitions}

-- 02: "17 and 18 count the reachable table first, as before.": the rows are those of the build
unfoldable pub trimmed_of : List ℕ → ℕ → ℕ → Result Counts Refusal
trimmed_of file codesLen movesLen = built_by (build_row file codesLen movesLen) (trimmed_codes (rule_in file)) (trimmed_transitions (rule_in file))

-- the slice of codes afterwards. 02: "keeps reachable macrostates from which an accepting run .. exists, renumbered ascending .., unused elements 0"
unfoldable pub trimmed_codes_after : List ℕ → List ℕ → ℕ → List ℕ
trimmed_codes_after file codes movesLen = slice_after (build_row file (length codes) movesLen) (trimmed_codes (rule_in file)) codes

-- the slice of transitions afterwards: "and the transitions between them"
unfoldable pub trimmed_transitions_after : List ℕ → ℕ → List ℕ → List ℕ
trimmed_transitions_after file codesLen moves = slice_after (build_row file codesLen (length moves)) (trimmed_transitions (rule_in file)) moves
