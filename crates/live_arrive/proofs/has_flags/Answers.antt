-- `has_flags` meets its contract: no byte before the index is above `most`.
use Rattle.std.proofs.Common.{◌+◌, ◌-◌, drop, length-drop, ◌∙◌, arith}
use Rattle.std.proofs.lemmas.List.{get_or-take, get_or-drop, length-take-le}
use Rattle.std.proofs.lemmas.Bool.{leb-true}
use Rattle.live_spec.specs.State.{set_at}
use Rattle.live_arrive.proofs.has_flags.Goals as goal

pub returns : goal.returns
returns c = λ e y l.
    let part = drop set_at c.args.state.now in let n = set_at + c.args.n - set_at in
    let long = length-take-le n part (omega (arith, length-drop set_at c.args.state.now)) in
    let same = get_or-take n part y 0 (omega arith) ∙ get_or-drop set_at c.args.state.now y 0 in omega (arith, c.loop-v.invariant y (omega (arith, long)), same, leb-true)
