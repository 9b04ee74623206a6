-- `copy_letters` meets its contract: what `copy_within` leaves is the part put at its new place.
use Rattle.std.proofs.Common.{◌≡◌, ◌+◌, ◌-◌, length, take, drop, length-drop, append_assoc, arith}
use Rattle.std.proofs.lemmas.List.{length-take-le}
use Rattle.live_spec.specs.Effects.{put}
use Rattle.live_set.proofs.letters.copy_letters.Goals as goal

pub returns : goal.returns
unfolding put
returns c =
    let s = c.args.state.now in let n : c.args.from + 512 - c.args.from ≡ 512 = omega arith in
    let long : length (take 512 (drop c.args.from s)) ≡ 512 = length-take-le 512 _ (omega (arith, length-drop c.args.from s)) in
    rw long (rw (n, append_assoc) at c.copy_within.ensures.after)
