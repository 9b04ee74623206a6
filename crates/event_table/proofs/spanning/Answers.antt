-- `spanning` meets its contract: one line more.
use Rattle.std.proofs.Common.{◌≡◌, ℕ, Bool, ◌+◌, ◌*◌, ◌^◌, ◌∙◌, ap, ap₂, arith}
use Rattle.sets.specs.Tests.{one}
use Rattle.sets.specs.Masks.{mask}
use Rattle.event_spec.specs.Events.{spans}
use Rattle.event_table.proofs.Turns.{mask_start, mask-more, mask_fits}
use Rattle.event_table.proofs.spanning.Goals as goal

pub loop-j-init : goal.loop-j-init
loop-j-init c = mask_start (spans _ _ _)

pub overflow_add-lines : goal.overflow_add-lines
overflow_add-lines c = let a = c.args in let l = c.loop-j in
    let e : l.lines + c.marked-lines.result ≡ mask (l.j + 1) (spans a.events.now a.i a.x) =
    ap₂ (λ (u v : ℕ). u + v) l.invariant (c.marked-lines.ensures ∙ ap (λ (b : Bool). one b * 2 ^ l.j) c.is_spanned.ensures) ∙ mask-more l.j (spans a.events.now a.i a.x) in
    omega (arith, e, mask_fits l.j (spans a.events.now a.i a.x) (omega (arith, c.loop-j-test.true, c.requires.1)))

pub loop-j-preserved : goal.loop-j-preserved
loop-j-preserved c = let a = c.args in let l = c.loop-j in
    ap₂ (λ (u v : ℕ). u + v) l.invariant (c.marked-lines.ensures ∙ ap (λ (b : Bool). one b * 2 ^ l.j) c.is_spanned.ensures) ∙ mask-more l.j (spans a.events.now a.i a.x)
