-- `step_part` meets its contract: the part of state is the set that is stepped.
use Rattle.std.proofs.Common.{◌≡◌, ◌∙◌, ◌+◌, ◌-◌, length, take, drop, length-drop, refl, arith}
use Rattle.std.proofs.lemmas.List.{length-take-le}
use Rattle.table_lent.specs.Lent.{words_in}
use Rattle.live_spec.specs.State.{set_at}
use Rattle.live_arrive.proofs.Arrivals.{part-flags, part-stepped}
use Rattle.live_arrive.proofs.step_part.Goals as goal

pub step_tried-requires : goal.step_tried-requires
step_tried-requires c =
    let n = set_at + c.args.n - set_at in let same : n ≡ c.args.n = omega arith in let part = drop set_at c.args.state.now in
    let long : length (take n part) ≡ c.args.n = length-take-le n part (omega (arith, length-drop set_at c.args.state.now)) ∙ same in
    (c.requires.0, omega (arith, long), rw same (part-flags set_at c.args.n c.args.state.now c.requires.2 c.requires.3))

pub returns : goal.returns
returns c = let a = c.args in
    part-stepped set_at (set_at + a.n - set_at) a.n a.s a.letter (words_in a.transitions.now) a.state.now _ _ (omega arith) refl c.requires.2 c.step_tried.ensures
