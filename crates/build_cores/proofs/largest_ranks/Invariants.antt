-- `build_cores::largest_ranks` meets its contract: the sizes of the components so far.
use Rattle.std.proofs.Common.{◌≡◌, ◌*◌, ◌≤◌}
use Rattle.build_cores.specs.Used.{caps_of}
use Rattle.build_cores.proofs.largest_ranks.Given as goal

abbrev pub invariant-loop-part : goal.invariant-loop-part
invariant-loop-part l = (l.caps ≡ caps_of l.parts l.part-index) × (l.caps ≤ l.part-index * 4294967296)
