-- `begin` meets its contract: the part of state that is written is the initial set.
use Rattle.std.proofs.Common.{◌≡◌, ◌∙◌, ◌+◌, ◌-◌, ◌/◌, List, ℕ, length, drop, length-drop, ap, arith}
use Rattle.std.proofs.lemmas.List.{length-take-le}
use Rattle.table_lent.specs.Lent.{words_in}
use Rattle.table_lent.proofs.Reading.{words-in-length}
use Rattle.live_spec.specs.State.{set_at}
use Rattle.live_spec.specs.Effects.{put, with_set}
use Rattle.live_set.proofs.Puts.{put-mid}
use Rattle.live_spec.proofs.Steps.{initial-length}
use Rattle.live_state.proofs.set_part.begin.Goals as goal

pub slice_bounds-begin_set-end : goal.slice_bounds-begin_set-end
slice_bounds-begin_set-end c = omega (arith, words-in-length c.args.codes.now)

pub begin_set-requires : goal.begin_set-requires
begin_set-requires c =
    let s = c.args.state.now in let w = words-in-length c.args.codes.now in let k = set_at + length c.args.codes.now / 8 - set_at in
    let same : k ≡ length (words_in c.args.codes.now) = omega arith in (c.requires.0, length-take-le k (drop set_at s) (omega (arith, length-drop set_at s)) ∙ same)

pub returns : goal.returns
unfolding with_set
returns c =
    let codes = words_in c.args.codes.now in let w = words-in-length c.args.codes.now in let e = c.begin_set.ensures in
    let long = ap (λ (l : List ℕ). length l) e ∙ initial-length c.args.initial codes in let same : length codes ≡ set_at + length c.args.codes.now / 8 - set_at = omega arith in
    put-mid set_at _ _ c.args.state.now (long ∙ same) ∙ ap (λ (s : List ℕ). put set_at s c.args.state.now) e
