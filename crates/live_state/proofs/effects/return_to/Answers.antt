-- `return_to` meets its contract: the mark's number and letters are written, and the set is worked out afresh.
use Rattle.std.proofs.Common.{◌∙◌, List, ℕ, take, drop, ap, arith}
use Rattle.table_lent.specs.Lent.{words_in}
use Rattle.live_spec.specs.State.{letters_at_byte, mark_number_at, mark_letters_at, two_bytes, number_at_lem}
use Rattle.live_spec.specs.Effects.{put, numbered, refreshed, returned}
use Rattle.live_state.proofs.Replays.{number-at-low}
use Rattle.live_state.proofs.Writes.{returned-letters}
use Rattle.live_state.proofs.effects.return_to.Goals as goal

pub put_number-requires : goal.put_number-requires
put_number-requires c = (omega (arith, number-at-low c.args.state.now (mark_number_at c.args.m), c.number_at-n.ensures), omega (arith, c.requires.2.long))

pub returns : goal.returns
unfolding returned numbered
returns c =
    let a = c.args in let number = c.put_number.ensures ∙ ap (λ (k : ℕ). put 0 (two_bytes k) a.state.now) c.number_at-n.ensures in
    let written = c.copy_letters.ensures ∙ ap (λ (s : List ℕ). put letters_at_byte (take 512 (drop (mark_letters_at a.m) s)) s) number
    ∙ returned-letters a.state.now c.requires.2.long a.m (number_at_lem a.state.now (mark_number_at a.m)) in
    c.refresh.ensures ∙ ap (λ (s : List ℕ). refreshed a.initial (words_in a.codes.now) (words_in a.transitions.now) s) written
