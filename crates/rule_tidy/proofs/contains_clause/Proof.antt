-- `rule_tidy::contains_clause` meets its contract: a conjunction takes nothing from what is contained.
use native.Mathlib.Omega.{arith}
use Rattle.rule_tidy.proofs.Laws.{containing-same, containing-other}
use Rattle.rule_tidy.proofs.contains_clause.Statement.{statement}
use Rattle.rule_tidy.proofs.contains_clause.Tie as tie

returns : tie.Need-returns-then-c-d
returns c = let a = c.before.args in containing-same a.properly a.c a.d c.if-c-d.true

returns-2 : tie.Need-returns
returns-2 c = let a = c.before.args in containing-other a.properly a.c a.d (omega arith) (omega arith) c.if-c-d.false

pub contains_clause_spec : {M : Type 1} → statement M
contains_clause_spec = tie.close (tie.spec returns returns-2)
