-- `successors` meets its contract: at the last letter, the states named are those that q leads to.
use Rattle.std.proofs.Common.{◌≡◌, ℕ, List, ap, ◌∙◌, arith}
use Rattle.sets.specs.Tests.{some_below}
use Rattle.sets.specs.Masks.{mask}
use Rattle.sets.proofs.Bits.{bit-none, mask-of}
use Rattle.theory.specs.Rule.{entry}
use Rattle.theory.specs.Components.{named, leads}
use Rattle.rule_entries.specs.Entries.{rule_of}
use Rattle.rule_reach.proofs.Leads.{leads-next, leads-high}
use Rattle.rule_reach.proofs.successors.Goals as goal

pub loop-a-init : goal.loop-a-init
unfolding some_below
loop-a-init c = λ p l. bit-none p

pub loop-a-preserved : goal.loop-a-preserved
loop-a-preserved c = let a = c.args in let r = rule_of a.h a.counts.now a.clauses.now in
    let e : c.named_in-found.result ≡ mask 8 (named (entry r a.q c.loop-a.a)) = c.named_in-found.ensures ∙ ap (λ (x : List ℕ). mask 8 (named x)) c.entry_of.ensures in
    λ p l. leads-next r a.q c.loop-a.a c.loop-a.found _ p l e (c.loop-a.invariant p l)

pub returns : goal.returns
unfolding leads
returns c = let a = c.args in let r = rule_of a.h a.counts.now a.clauses.now in let l = c.loop-a in let w = c.requires in let e : l.a ≡ a.h.s = omega arith in
    mask-of 8 a.h.n l.found (leads r a.q) w.0.few_states (omega arith)
    (λ p m. l.invariant p (omega (arith, w.0.few_states)) ∙ ap (λ (x : ℕ). some_below x (λ b. named (entry r a.q b) p)) e)
    (λ p m n. l.invariant p n ∙ ap (λ (x : ℕ). some_below x (λ b. named (entry r a.q b) p)) e ∙ leads-high r w.0 a.q w.1 p m)
