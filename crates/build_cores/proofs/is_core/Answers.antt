-- `build_cores::is_core` meets its contract: a component with no gap is one more, and one with a gap ends it.
use Rattle.std.proofs.Common.{◌<◌, ℕ, refl, sym, arith, get_or, take, length-take, get_or-take}
use Rattle.sets.specs.Tests.{every}
use Rattle.sets.proofs.Masks.{mask_lt}
use Rattle.sets.proofs.Tests.{every-next, every-stop}
use Rattle.build_cores.specs.Used.{used}
use Rattle.build_cores.proofs.Gaps.{gap-free, gap-there}
use Rattle.build_cores.proofs.is_core.Goals as goal

pub loop-part-init : goal.loop-part-init
unfolding every
loop-part-init c = refl

pub overflow_add-found : goal.overflow_add-found
overflow_add-found c = omega (arith, mask_lt 16 (used c.args.ranks (get_or (take c.args.components c.args.parts.now) c.loop-part.part-index 0)), c.used_ranks-found.ensures)

pub returns-then-found-ne0 : goal.returns-then-found-ne0
returns-then-found-ne0 c = let l = c.loop-part in let lt : l.part-index < c.args.components = omega (arith, length-take {A = ℕ}) in
    sym (every-stop _ _ l.part-index lt (rw get_or-take at (gap-there c.args.ranks _ (rw c.used_ranks-found.ensures at c.if-found-ne0.true))))

pub loop-part-preserved : goal.loop-part-preserved
loop-part-preserved c = let l = c.loop-part in let lt : l.part-index < c.args.components = omega (arith, length-take {A = ℕ}) in
    every-next _ _ l.invariant (rw get_or-take at (gap-free c.args.ranks _ (rw c.used_ranks-found.ensures at c.if-found-ne0.false)))
