-- `at_height` meets its contract: the mask so far is that of the test below q.
use Rattle.std.proofs.Common.{◌≡◌, eqb, get_or}
use Rattle.std.specs.Int.Count.{ones}
use Rattle.sets.specs.Masks.{mask}
use Rattle.judge_place.proofs.at_height.Given as goal

abbrev pub invariant-loop-q : goal.invariant-loop-q
invariant-loop-q l = l.layer ≡ mask l.q (λ t. eqb (ones (get_or l.reach t 0)) l.height)
