-- `step_tried` meets its contract: the order, the sources and the ranges are what row 15 asks.
use Rattle.std.proofs.Common.{◌∙◌, length, sym}
use Rattle.table_lent.specs.Lent.{words_in}
use Rattle.live_arrive.proofs.Turns.{passes-not, strays, stepped-not, stepped-yes, stepped-back}
use Rattle.live_arrive.proofs.sweep.step_tried.Goals as goal

pub returns-then-not-is_ascending : goal.returns-then-not-is_ascending
returns-then-not-is_ascending c =
    stepped-not (passes-not (length c.args.set.now) c.args.s (words_in c.args.transitions.now) (sym c.is_ascending.ensures ∙ c.if-not-is_ascending.true))

pub returns-then-not-ends_below : goal.returns-then-not-ends_below
returns-then-not-ends_below c = stepped-not
    (strays (length c.args.set.now) c.args.s (words_in c.args.transitions.now) (sym c.is_ascending.ensures ∙ c.if-not-is_ascending.false) (c.ends_below.ensures.no c.if-not-ends_below.true c.args.s))

pub returns-then-sweep_tried : goal.returns-then-sweep_tried
returns-then-sweep_tried c =
    stepped-yes c.requires.2 (sym c.is_ascending.ensures ∙ c.if-not-is_ascending.false) (rw c.if-sweep_tried.true at c.sweep_tried.ensures) c.halve_all.ensures

pub returns : goal.returns
returns c = stepped-back c.requires.2 (sym c.is_ascending.ensures ∙ c.if-not-is_ascending.false) (rw c.if-sweep_tried.false at c.sweep_tried.ensures) c.keep_low.ensures
