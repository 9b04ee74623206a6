-- `replay` meets its contract: the set is the one after the letters before i, and nothing else has changed.
use Rattle.std.proofs.Common.{◌≡◌, ◌∙◌, List, ℕ, ◌+◌, ◌≤◌, ◌<◌, get_or, ap, ap₂, arith}
use Rattle.table_lent.specs.Lent.{words_in}
use Rattle.live_spec.specs.Afresh.{stepped}
use Rattle.live_spec.specs.State.{set_bytes, letters_in, letters_at_byte, number_in}
use Rattle.live_spec.specs.Effects.{with_set}
use Rattle.live_state.proofs.Replays.{number-low, replay-start, replay-letter, replay-next, replay-end}
use Rattle.live_state.proofs.set_part.replay.Goals as goal

pub loop-i-init : goal.loop-i-init
loop-i-init c = replay-start c.args.n (words_in c.args.transitions.now) c.args.state.now c.requires.1

pub overflow_add-letter : goal.overflow_add-letter
overflow_add-letter c = omega (arith, number-low c.args.state.now, c.number_at-i-end.ensures)

pub bounds-state-i : goal.bounds-state-i
bounds-state-i c = omega (arith, number-low c.args.state.now, c.number_at-i-end.ensures)

pub loop-i-preserved : goal.loop-i-preserved
loop-i-preserved c =
    let s = c.args.state.now in let n = c.args.n in let ts = words_in c.args.transitions.now in let i = c.loop-i.i in
    let more : i < number_in s = omega (arith, c.number_at-i-end.ensures) in
    let letter : get_or c.loop-i.state (letters_at_byte + i) 0 ≡ get_or (letters_in s) i 0 =
    ap (λ (x : List ℕ). get_or x (letters_at_byte + i) 0) c.loop-i.invariant ∙ replay-letter n ts s c.requires.1 i more in
    c.step.ensures ∙ ap₂ (λ (x : ℕ) (y : List ℕ). with_set (stepped n ts x (set_bytes y)) y) letter c.loop-i.invariant ∙ replay-next n ts s c.requires.1 i more c.requires.0

pub returns : goal.returns
returns c = let all : number_in c.args.state.now ≤ c.loop-i.i = omega (arith, c.number_at-i-end.ensures) in
    c.loop-i.invariant ∙ replay-end c.args.n (words_in c.args.transitions.now) c.args.state.now c.requires.1 c.loop-i.i all
