-- `sweep_row` meets its contract: the pair at x is tried, and those up to the next one that is in are out.
use Rattle.std.proofs.Common.{refl, ◌-◌, ◌*◌, arith}
use Rattle.stricter_laws.proofs.Tries.{tried-zeros, tried-turn}
use Rattle.stricter_cores.proofs.sweep_row.Goals as goal

pub loop-x-preserved : goal.loop-x-preserved
loop-x-preserved c = let s = c.next_set-x.ensures in let row = c.args.i * c.args.nb in record {
  from = omega (arith, s.before.ordered);
  within = s.within;
  tried = tried-zeros _ (tried-turn c.loop-x.x row (c.loop-x.x - row) _ c.loop-x.invariant.tried (λ z a b. absurd (omega arith)) (omega arith) c.mark_pair-changed.ensures refl)
      s.before.zeros;
}
