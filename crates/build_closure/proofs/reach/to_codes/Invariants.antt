-- `build_closure::reach::to_codes` meets its contract: the keys so far are codes.
use Rattle.std.proofs.Common.{◌≡◌}
use Rattle.build_closure.proofs.Codes.{coded}
use Rattle.build_closure.proofs.reach.to_codes.Given as goal

abbrev pub invariant-loop-key : goal.invariant-loop-key
invariant-loop-key l = l.key-items ≡ coded l.key-index l.initial.key-items
