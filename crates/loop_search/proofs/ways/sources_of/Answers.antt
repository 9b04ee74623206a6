-- `sources_of` meets its contract: one bit more.
use Rattle.std.proofs.Common.{◌≡◌, ℕ, ◌&&◌, get_or, refl, ap, ◌∙◌, arith}
use Rattle.sets.specs.Tests.{some_below, one}
use Rattle.sets.specs.Masks.{bit, mask}
use Rattle.sets.proofs.Masks.{put-bit}
use Rattle.loop_spec.specs.Search.{leads_by, sources}
use Rattle.loop_search.proofs.Steps.{meets-below}
use Rattle.loop_search.proofs.ways.sources_of.Goals as goal

pub loop-q-init : goal.loop-q-init
unfolding mask
loop-q-init c = refl

pub loop-q-preserved : goal.loop-q-preserved
loop-q-preserved c = let a = c.args in let l = c.loop-q in
    rw l.invariant (put-bit l.q c.meets.result (λ p. some_below a.n (λ t. leads_by a.es.now p t && bit a.set t)) (omega arith)
    (c.meets.ensures ∙ ap one (meets-below a.n (get_or a.es.now l.q 0) a.set c.requires.0 c.requires.1)))

pub returns : goal.returns
unfolding sources
returns c = let a = c.args in let e : c.loop-q.q ≡ a.n = omega arith in
    c.loop-q.invariant ∙ ap (λ (x : ℕ). mask x (λ p. some_below a.n (λ t. leads_by a.es.now p t && bit a.set t))) e
