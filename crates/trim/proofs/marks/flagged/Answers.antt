-- `flagged` meets its contract: the mark of an accepting code is 2, of another 1.
use Rattle.std.proofs.Common.{◌∙◌, sym, arith}
use Rattle.theory_laws.proofs.Sweeping.{flag-accepting, flag-other}
use Rattle.trim.proofs.marks.flagged.Goals as goal

pub returns-then-is_accepting : goal.returns-then-is_accepting
returns-then-is_accepting c = let e = flag-accepting c.args.c (sym c.is_accepting.ensures ∙ c.if-is_accepting.true) in omega arith

pub returns : goal.returns
returns c = let e = flag-other c.args.c (sym c.is_accepting.ensures ∙ c.if-is_accepting.false) in omega arith
