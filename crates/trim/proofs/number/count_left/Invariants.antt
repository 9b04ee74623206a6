-- `count_left` meets its contract: k counts those before the index.
use Rattle.std.proofs.Common.{◌≡◌}
use Rattle.trim_spec.specs.Trimmed.{new_number}
use Rattle.trim_spec.specs.Tagged.{highs}
use Rattle.trim.proofs.number.count_left.Given as goal

abbrev pub invariant-loop-c : goal.invariant-loop-c
invariant-loop-c l = l.k ≡ new_number (highs l.codes) l.c-index
