-- `class_of` meets its contract: the mask up to p.
use Rattle.std.proofs.Common.{◌≡◌, get_or, ◌&&◌}
use Rattle.sets.specs.Masks.{bit, mask}
use Rattle.rule_components.proofs.class_of.Given as goal

abbrev pub invariant-loop-p : goal.invariant-loop-p
invariant-loop-p l = l.class ≡ mask l.p (λ t. bit (get_or l.reach l.q 0) t && bit (get_or l.reach t 0) l.q)
