-- `starts_of` meets its contract: one count more is added to the sum.
use Rattle.std.proofs.Common.{take, arith, refl, sym, ◌∙◌, length-set}
use Rattle.sets.specs.Lists.{sum}
use Rattle.sets.proofs.Walks.{sum-take, put_next}
use Rattle.rule_entries.proofs.starts_of.Goals as goal

pub loop-i-init : goal.loop-i-init
unfolding sum
loop-i-init c = record { long = refl; total = refl; small = omega arith; starts = λ j l. absurd (omega arith) }

pub loop-i-preserved : goal.loop-i-preserved
loop-i-preserved c =
    let l = c.loop-i in let xs = c.args.counts.now in record {
      long = length-set l.starts l.i l.total ∙ l.invariant.long;
      total = rw l.invariant.total (sym (sum-take xs l.i (omega arith)));
      small = omega arith;
      starts = put_next (λ j. sum (take j xs)) l.starts l.i l.total (omega arith) l.invariant.total l.invariant.starts;
    }
