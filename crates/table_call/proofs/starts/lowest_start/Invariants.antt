-- `lowest_start` meets its contract: no number before m is a start.
use Rattle.std.proofs.Common.{◌≡◌, ℕ, ◌<◌, false}
use Rattle.sets.specs.Masks.{bit}
use Rattle.table_lent.specs.Lent.{in_both}
use Rattle.table_call.specs.Starts.{starts_at}
use Rattle.table_call.proofs.starts.lowest_start.Given as goal

abbrev pub invariant-loop-m : goal.invariant-loop-m
invariant-loop-m l = (k : ℕ) → k < l.m → starts_at (λ c. bit c l.fn.initial) (in_both l.codes l.codebytes).numbers l.marks k ≡ false
