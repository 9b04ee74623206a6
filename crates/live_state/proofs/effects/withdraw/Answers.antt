-- `withdraw` meets its contract: the number and a zero are written, and the set is worked out afresh.
use Rattle.std.proofs.Common.{◌∙◌, ◌+◌, ◌-◌, [], ◌∷◌, List, ℕ, ap, ap₂, arith}
use Rattle.table_lent.specs.Lent.{words_in}
use Rattle.live_spec.specs.State.{letters_at_byte, two_bytes}
use Rattle.live_spec.specs.Effects.{put, numbered, refreshed, withdrawn}
use Rattle.live_state.proofs.Replays.{number-low}
use Rattle.live_state.proofs.effects.withdraw.Goals as goal

pub put_number-requires : goal.put_number-requires
put_number-requires c = (omega (arith, number-low c.args.state.now, c.number_at-n.ensures), omega (arith, c.requires.1.long))

pub overflow_add-n : goal.overflow_add-n
overflow_add-n c = omega (arith, number-low c.args.state.now, c.number_at-n.ensures)

pub put_byte-requires : goal.put_byte-requires
put_byte-requires c = omega (arith, number-low c.args.state.now, c.number_at-n.ensures, c.requires.1.long, c.put_number.auto.state)

pub returns : goal.returns
unfolding withdrawn numbered
returns c =
    let a = c.args in let n = ap (λ (k : ℕ). k - 1) c.number_at-n.ensures in
    let written = c.put_byte.ensures ∙ ap₂ (λ (k : ℕ) (s : List ℕ). put (letters_at_byte + k) (0 ∷ []) s) n (c.put_number.ensures ∙ ap (λ (k : ℕ). put 0 (two_bytes k) a.state.now) n) in
    c.refresh.ensures ∙ ap (λ (s : List ℕ). refreshed a.initial (words_in a.codes.now) (words_in a.transitions.now) s) written
