-- `arrive` meets its contract: the number, the letter and the set are written one after another.
use Rattle.std.proofs.Common.{◌∙◌, ◌+◌, [], ◌∷◌, List, ℕ, sym, ap, ap₂, arith}
use Rattle.table_lent.specs.Lent.{words_in}
use Rattle.table_lent.proofs.Reading.{words-in-length}
use Rattle.live_spec.specs.Afresh.{stepped}
use Rattle.live_spec.specs.State.{letters_at_byte, two_bytes, set_bytes}
use Rattle.live_spec.specs.Effects.{put, numbered, with_set}
use Rattle.live_state.proofs.Writes.{arrived-end}
use Rattle.live_state.proofs.effects.arrive.Goals as goal

pub step-requires : goal.step-requires
step-requires c = let pre = c.requires.0 in let w = words-in-length c.args.codes.now in
    (rw (sym w) pre.inside, omega (arith, w, pre.few, pre.long, c.put_byte.auto.state, c.put_number.auto.state))

pub returns : goal.returns
unfolding numbered
returns c =
    let a = c.args in let ts = words_in a.transitions.now in let n = c.number_at-n.ensures in
    let written = c.put_byte.ensures ∙ ap₂ (λ (k : ℕ) (s : List ℕ). put (letters_at_byte + k) (a.letter ∷ []) s) n (c.put_number.ensures ∙ ap (λ (k : ℕ). put 0 (two_bytes (k + 1)) a.state.now) n) in
    λ initial. c.step.ensures ∙ ap₂ (λ (k : ℕ) (s : List ℕ). with_set (stepped k ts a.letter (set_bytes s)) s) (sym (words-in-length a.codes.now)) written
    ∙ arrived-end a.state.now c.requires.0.long initial a.letter (words_in a.codes.now) ts c.requires.1
