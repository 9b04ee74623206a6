-- `start_in_row` meets its contract: a pair begins if its two numbers do.
use Rattle.std.proofs.Common.{sym, ◌∙◌, arith}
use Rattle.sets.proofs.Bools.{and_r}
use Rattle.stricter_starts.proofs.Rows.{none-next, no_start, found}
use Rattle.stricter_starts.proofs.start_in_row.Goals as goal

pub returns-then-not-begins_here : goal.returns-then-not-begins_here
returns-then-not-begins_here c = no_start _ _ _ _ _ _ c.requires.1 (sym c.begins_here.ensures ∙ c.if-not-begins_here.true)

pub returns-then-begins_lacking : goal.returns-then-begins_lacking
returns-then-begins_lacking c =
    found _ _ _ _ _ _ _ c.loop-x.invariant.from c.loop-x-test.true (c.loop-x.invariant.set c.loop-x-test.true)
    (and_r _ _ (sym c.begins_here.ensures ∙ c.if-not-begins_here.false)) (sym c.begins_lacking.ensures ∙ c.if-begins_lacking.true)

pub loop-x-preserved : goal.loop-x-preserved
loop-x-preserved c = let n = c.next_set-x-in-loop-x.ensures in record {
  from = omega (arith, n.before.ordered);
  within = n.within;
  set = n.set;
  none = none-next _ _ _ _ _ _ c.loop-x.x c.loop-x.invariant.from c.loop-x-test.true c.loop-x.invariant.none
      (sym c.begins_lacking.ensures ∙ c.if-begins_lacking.false) n.before;
}
