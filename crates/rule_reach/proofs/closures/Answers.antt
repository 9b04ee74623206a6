-- `closures` meets its contract: the least closed set is what the state leads to.
use Rattle.std.proofs.Common.{◌≡◌, arith, sym}
use Rattle.sets.specs.Masks.{mask}
use Rattle.theory.specs.Components.{reaches}
use Rattle.rule_entries.specs.Entries.{rule_of}
use Rattle.rule_reach.specs.Tables.{LeastClosed, successors_of}
use Rattle.rule_reach.proofs.Tables.{table_none, table-set}
use Rattle.rule_reach.proofs.Rounds.{least-reaches}
use Rattle.rule_reach.proofs.closures.Goals as goal

pub loop-q-init : goal.loop-q-init
loop-q-init c = table_none _

pub loop-q-preserved : goal.loop-q-preserved
loop-q-preserved c = let a = c.args in let r = rule_of a.h a.counts.now a.clauses.now in let l = c.loop-q in
    let least : LeastClosed (successors_of r) l.q c.closure.result = rw (sym c.successor_table-es.ensures) c.closure.ensures in
    let e : c.closure.result ≡ mask a.h.n (reaches r l.q) = least-reaches r c.requires.few_states l.q c.loop-q-test.true c.closure.result c.closure.type_inv least in
    rw l.invariant (table-set _ (λ p. mask _ (reaches r p)) _ (omega (arith, c.requires.few_states)) e)
