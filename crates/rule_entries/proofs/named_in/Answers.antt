-- `named_in` meets its contract: one clause more is found, and at the end none is left.
use Rattle.std.proofs.Common.{get_or, arith, sym, ◌∙◌}
use lib.Bits.{or_lt}
use Rattle.theory.specs.Components.{named}
use Rattle.sets.proofs.Bits.{bit-none, mask-of}
use Rattle.rule_entries.proofs.Entries.{named-next, named-all}
use Rattle.rule_entries.proofs.named_in.Goals as goal

pub loop-clause-init : goal.loop-clause-init
loop-clause-init c = (omega arith, λ p. rw (bit-none p))

pub loop-clause-preserved : goal.loop-clause-preserved
loop-clause-preserved c =
    let l = c.loop-clause in let cl = c.args.clauses.now in (
      or_lt 8 l.found (get_or cl l.clause-index 0) l.invariant.0 (omega (arith, c.type_inv.clauses l.clause-index)),
      λ p. sym (named-next cl l.clause-index l.found p (omega arith)) ∙ l.invariant.1 p,
    )

pub returns : goal.returns
returns c =
    let l = c.loop-clause in let cl = c.args.clauses.now in
    mask-of 8 8 l.found (named cl) (omega arith) l.invariant.0 (λ q k. sym (named-all cl l.clause-index l.found q (omega arith)) ∙ l.invariant.1 q) (λ q k m. absurd (omega arith))
