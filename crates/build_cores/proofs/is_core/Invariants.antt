-- `build_cores::is_core` meets its contract: the components so far have no gap.
use Rattle.std.proofs.Common.{◌≡◌, true, get_or}
use Rattle.sets.specs.Tests.{every}
use Rattle.build_cores.specs.Used.{gapless}
use Rattle.build_cores.proofs.is_core.Given as goal

abbrev pub invariant-loop-part : goal.invariant-loop-part
invariant-loop-part l = every l.part-index (λ c. gapless l.ranks (get_or l.parts c 0)) ≡ true
