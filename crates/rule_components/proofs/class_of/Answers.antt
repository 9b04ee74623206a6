-- `class_of` meets its contract: one bit more.
use Rattle.std.proofs.Common.{ℕ, Bool, ◌&&◌, get_or, refl, arith}
use Rattle.sets.specs.Masks.{bit, mask}
use Rattle.sets.proofs.Masks.{put-bit}
use Rattle.rule_components.proofs.Mixed.{both_bits}
use Rattle.rule_components.proofs.class_of.Goals as goal

pub loop-p-init : goal.loop-p-init
unfolding mask
loop-p-init c = refl

pub loop-p-preserved : goal.loop-p-preserved
loop-p-preserved c = let es = c.args.reach.now in let q = c.args.q in let p = c.loop-p.p in let f : ℕ → Bool = λ t. bit (get_or es q 0) t && bit (get_or es t 0) q in
    rw c.loop-p.invariant (put-bit p _ f (omega arith) (omega (arith, both_bits (get_or es q 0) (get_or es p 0) p q)))
