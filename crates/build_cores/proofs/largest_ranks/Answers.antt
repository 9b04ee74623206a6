-- `build_cores::largest_ranks` meets its contract: one component more.
use Rattle.std.proofs.Common.{◌+◌, ◌<◌, ℕ, refl, ap₂, arith, get_or-take, add-one, length-take}
use Rattle.build_cores.specs.Used.{sum_of, caps_of}
use Rattle.build_cores.proofs.largest_ranks.Goals as goal

pub loop-part-init : goal.loop-part-init
unfolding caps_of sum_of
loop-part-init c = (refl, omega arith)

pub loop-part-preserved : goal.loop-part-preserved
unfolding caps_of sum_of
loop-part-preserved c = let l = c.loop-part in let lt : l.part-index < c.args.components = omega (arith, length-take {A = ℕ}) in (
  rw add-one (ap₂ (λ (x y : ℕ). x + y) l.invariant.0 (rw get_or-take at c.sizes.ensures)),
  omega (arith, l.invariant.1),
)
