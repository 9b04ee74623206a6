-- `step_set` meets its contract: the flags, the sweep over them, and the halves of what it left.
use Rattle.std.proofs.Common.{◌∙◌}
use Rattle.std.proofs.lemmas.List.{length-map}
use Rattle.table_lent.specs.Lent.{words_in}
use Rattle.live_set.specs.Sweeps.{flag_of_lem}
use Rattle.live_set.proofs.Sets.{flags-low, arrived}
use Rattle.live_set.proofs.step_set.Goals as goal

pub sweep-requires : goal.sweep-requires
sweep-requires c = rw c.flag_all.ensures (rw (length-map c.args.set.now flag_of_lem) c.requires, flags-low c.args.letter (words_in c.args.transitions.now) c.args.set.now)

pub returns : goal.returns
returns c = c.halve_all.ensures ∙ arrived c.args.letter (words_in c.args.transitions.now) c.args.set.now _ (rw c.flag_all.ensures at c.sweep.ensures)
