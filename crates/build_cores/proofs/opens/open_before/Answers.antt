-- `build_cores::opens::open_before` meets its contract: the place of state q in the mask, and in the end the place of the table.
use Rattle.std.proofs.Common.{◌≡◌, ◌+◌, ◌*◌, ◌^◌, ◌∙◌, ℕ, Bool, ap, ap₂, arith}
use lib.Bits.{bit_xor}
use Rattle.sets.specs.Tests.{one}
use Rattle.sets.specs.Masks.{mask}
use Rattle.rule_entries.specs.Entries.{rule_of}
use Rattle.build_cores.proofs.Table.{met_by_lem, mask_start, mask-more, mask_fits, place_is}
use Rattle.build_cores.proofs.opens.open_before.Goals as goal

pub loop-q-init : goal.loop-q-init
loop-q-init c = mask_start _

-- one state more
more : (c : goal.After-marked-found) → c.loop-q.found + c.marked-found.result ≡ mask (c.loop-q.q + 1) (met_by_lem (rule_of c.args.h c.args.counts.now c.args.clauses.now) c.args.letter c.args.opened)
more c = ap₂ (λ (x y : ℕ). x + y) c.loop-q.invariant (c.marked-found.ensures ∙ ap (λ (b : Bool). one b * 2 ^ c.loop-q.q) c.satisfied.ensures) ∙ mask-more c.loop-q.q _

pub overflow_add-found : goal.overflow_add-found
overflow_add-found c = let a = c.args in
    omega (arith, more c, mask_fits c.loop-q.q (met_by_lem (rule_of a.h a.counts.now a.clauses.now) a.letter a.opened) (omega (arith, c.requires.0.few_states)))

pub loop-q-preserved : goal.loop-q-preserved
loop-q-preserved c = more c

pub returns : goal.returns
returns c = let a = c.args in let e : c.loop-q.q ≡ a.h.n = omega arith in
    ap (λ (x : ℕ). bit_xor x a.h.accepting) (rw e at c.loop-q.invariant) ∙ place_is (rule_of a.h a.counts.now a.clauses.now) c.requires.0 a.letter a.opened
