-- `repeats_name` meets its contract: none of the names before b is equal to an earlier one.
use Rattle.std.proofs.Common.{◌≡◌, false}
use Rattle.sets.specs.Tests.{some_below}
use Rattle.file_spec.specs.Names.{same_name_lem}
use Rattle.file_names.proofs.repeats_name.Given as goal

abbrev pub invariant-loop-b : goal.invariant-loop-b
invariant-loop-b l = some_below l.b (λ k. some_below k (λ a. same_name_lem l.names a k)) ≡ false
