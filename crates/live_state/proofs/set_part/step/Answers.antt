-- `step` meets its contract: the part of state that is written is the set that is stepped.
use Rattle.std.proofs.Common.{◌≡◌, ◌∙◌, ◌+◌, ◌-◌, List, ℕ, length, take, drop, length-drop, sym, ap, arith}
use Rattle.std.proofs.lemmas.List.{length-take-le}
use Rattle.table_lent.specs.Lent.{words_in}
use Rattle.live_spec.specs.State.{set_at}
use Rattle.live_spec.specs.Effects.{put, with_set}
use Rattle.live_set.proofs.Puts.{put-mid}
use Rattle.live_state.proofs.Replays.{step_part}
use Rattle.live_spec.proofs.Steps.{stepped-length}
use Rattle.live_state.proofs.set_part.step.Goals as goal

pub step_set-requires : goal.step_set-requires
step_set-requires c =
    let part = drop set_at c.args.state.now in let n = set_at + c.args.n - set_at in
    let long : length (take n part) ≡ c.args.n = length-take-le n part (omega (arith, length-drop set_at c.args.state.now)) ∙ omega arith in rw long c.requires.0

pub returns : goal.returns
unfolding with_set
returns c =
    let a = c.args in let ts = words_in a.transitions.now in let same : set_at + a.n - set_at ≡ a.n = omega arith in
    let e = c.step_set.ensures ∙ step_part set_at (set_at + a.n - set_at) a.n a.letter ts a.state.now same c.requires.1 c.requires.0 in
    let long = ap (λ (l : List ℕ). length l) e ∙ stepped-length a.n ts a.letter (drop set_at a.state.now) in
    put-mid set_at _ _ a.state.now (long ∙ sym same) ∙ ap (λ (s : List ℕ). put set_at s a.state.now) e
