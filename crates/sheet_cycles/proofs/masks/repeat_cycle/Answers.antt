-- `repeat_cycle` meets its contract: one byte more is right, and zeros are right after the last.
use Rattle.std.proofs.Common.{◌≡◌, ℕ, ◌+◌, ◌-◌, ◌∙◌, [], get_or, refl, sym, ap, arith}
use Rattle.std.proofs.lemmas.Grind.{common_steps}
use Rattle.theory.specs.Word.{next_place_lem, place}
use Rattle.theory_laws.proofs.Places.{places-low}
use Rattle.sheet_cycles.proofs.Repeats.{step-next, spread-front, spread-cycle, right-next, right_end}
use Rattle.sheet_cycles.proofs.masks.repeat_cycle.Goals as goal

pub loop-i-init : goal.loop-i-init
unfolding place
loop-i-init c =
    let first = c.args.first in let z = c.requires in let none : first - first ≡ 0 = omega arith in
    (z.0, sym (ap (place (next_place_lem [] c.args.cycle.now)) none), record { long = refl; each = spread-front _ _ _ _ z.1 z.2 })

pub loop-i-preserved : goal.loop-i-preserved
loop-i-preserved c =
    let z = c.requires in let l = c.loop-i in let h = l.invariant in let v = c.args.cycle.now in let first = c.args.first in
    let next = step-next v first l.i l.p c.next_place-p.result (omega arith) h.1 (c.next_place-p.ensures [] v refl refl) in
    let byte : get_or v l.p 0 ≡ get_or v (place (next_place_lem [] v) (l.i - first)) 0 = ap (λ (x : ℕ). get_or v x 0) h.1 in (
      omega (arith, next, places-low [] v z.0 (l.i + 1 - first)),
      next,
      right-next z.1 z.2 h.2 (omega arith) (byte ∙ spread-cycle v first c.args.end c.args.block.now z.1 z.2 l.i (omega arith) (omega arith)),
    )

pub returns : goal.returns
returns c = right_end c.requires.1 c.requires.2 c.loop-i.invariant.2 (omega arith) (grind (arith, common_steps))
