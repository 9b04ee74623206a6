-- `spared_in` meets its contract: the mask so far is that of the components before k.
use Rattle.std.proofs.Common.{◌≡◌}
use Rattle.sets.specs.Masks.{mask}
use Rattle.stricter_tags_moves.specs.Spared.{spared_in_lem}
use Rattle.stricter_tags_moves.proofs.spared_in.Given as goal

abbrev pub invariant-loop-k : goal.invariant-loop-k
invariant-loop-k l = l.spared ≡ mask l.k (spared_in_lem l.ranks l.parts l.levels)
