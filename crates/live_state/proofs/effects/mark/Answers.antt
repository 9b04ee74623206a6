-- `mark` meets its contract: the mark, its number and its letters are written one after another.
use Rattle.std.proofs.Common.{◌∙◌, List, ℕ, take, drop, ap, ap₂, arith}
use Rattle.live_spec.specs.State.{letters_at_byte, mark_number_at, mark_letters_at, two_bytes}
use Rattle.live_spec.specs.Effects.{put}
use Rattle.live_state.proofs.Replays.{number-low}
use Rattle.live_state.proofs.Writes.{marked-end}
use Rattle.live_state.proofs.effects.mark.Goals as goal

pub put_number-requires : goal.put_number-requires
put_number-requires c = (omega (arith, number-low c.args.state.now, c.number_at-n.ensures), omega (arith, c.requires.1, c.put_byte.auto.state))

pub returns : goal.returns
returns c =
    let written = c.put_number.ensures ∙ ap₂ (λ (k : ℕ) (s : List ℕ). put (mark_number_at c.args.m) (two_bytes k) s) c.number_at-n.ensures c.put_byte.ensures in
    c.copy_letters.ensures ∙ ap (λ (s : List ℕ). put (mark_letters_at c.args.m) (take 512 (drop letters_at_byte s)) s) written
    ∙ marked-end c.args.state.now c.requires.1 c.args.m c.requires.0
