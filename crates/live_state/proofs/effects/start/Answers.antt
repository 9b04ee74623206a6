-- `start` meets its contract: zeros in front, and the initial set over them.
use Rattle.std.proofs.Common.{◌∙◌, List, ℕ, length, replicate, ap}
use Rattle.std.proofs.lemmas.List.{length-take-le, length-replicate}
use Rattle.table_lent.specs.Lent.{words_in}
use Rattle.live_spec.specs.Afresh.{initial_set}
use Rattle.live_spec.specs.State.{state_length_lem}
use Rattle.live_spec.specs.Effects.{put, with_set, started}
use Rattle.live_state.proofs.Writes.{put_front}
use Rattle.live_state.proofs.effects.start.Goals as goal

pub returns : goal.returns
unfolding started
returns c =
    let state = c.args.state.now in let long = length-take-le state_length_lem state c.requires.2 in
    let zeros = c.fill_with.ensures ∙ ap (λ (n : ℕ). replicate n 0) long in
    let cleared = put_front state_length_lem _ state (ap (λ (s : List ℕ). length s) zeros ∙ length-replicate {A = ℕ} state_length_lem 0) ∙ ap (λ (s : List ℕ). put 0 s state) zeros in
    λ ts. c.begin.ensures ∙ ap (λ (s : List ℕ). with_set (initial_set c.args.initial (words_in c.args.codes.now)) s) cleared
