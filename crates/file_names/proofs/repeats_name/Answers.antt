-- `repeats_name` meets its contract: what `repeats_earlier` answers at each letter.
use Rattle.std.proofs.Common.{refl, sym, ◌∙◌, arith}
use Rattle.sets.specs.Tests.{some_below}
use Rattle.file_spec.specs.Names.{repeats_name_lem}
use Rattle.file_spec.proofs.Walks.{some_next, some_end, some-stop}
use Rattle.file_names.proofs.repeats_name.Goals as goal

pub loop-b-init : goal.loop-b-init
unfolding some_below
loop-b-init c = refl

pub loop-b-preserved : goal.loop-b-preserved
loop-b-preserved c = some_next _ _ c.loop-b.invariant (sym c.repeats_earlier.ensures ∙ c.if-repeats_earlier.false)

pub returns-then-repeats_earlier : goal.returns-then-repeats_earlier
unfolding repeats_name_lem
returns-then-repeats_earlier c = some-stop _ _ c.loop-b.b (omega arith) (sym c.repeats_earlier.ensures ∙ c.if-repeats_earlier.true)

pub returns : goal.returns
unfolding repeats_name_lem
returns c = some_end c.loop-b.b _ _ (omega arith) c.loop-b.invariant
