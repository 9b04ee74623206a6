-- `successor_table` meets its contract: one element more.
use Rattle.std.proofs.Common.{arith}
use Rattle.sets.specs.Masks.{mask}
use Rattle.theory.specs.Components.{leads}
use Rattle.rule_reach.proofs.Tables.{table_none, table-set}
use Rattle.rule_reach.proofs.successor_table.Goals as goal

pub loop-q-init : goal.loop-q-init
loop-q-init c = table_none _

pub loop-q-preserved : goal.loop-q-preserved
loop-q-preserved c = rw c.loop-q.invariant (table-set _ (λ p. mask _ (leads _ p)) _ (omega (arith, c.requires.few_states)) c.successors.ensures)
