-- `refresh` meets its contract: the initial set, and from it over the letters held.
use Rattle.std.proofs.Common.{◌∙◌, ◌+◌, ◌/◌, ◌≤◌, List, ℕ, length, take, sym, ap, arith}
use Rattle.table_lent.specs.Lent.{words_in}
use Rattle.table_lent.proofs.Reading.{words-in-length}
use Rattle.live_spec.specs.Afresh.{stepped_over}
use Rattle.live_spec.specs.State.{set_at, set_bytes, letters_in}
use Rattle.live_spec.specs.Effects.{with_set}
use Rattle.live_state.proofs.Replays.{begun-long, refresh-end}
use Rattle.live_state.proofs.set_part.refresh.Goals as goal

pub replay-requires : goal.replay-requires
replay-requires c =
    let a = c.args in let pre = c.requires.1 in let codes = words_in a.codes.now in let w = words-in-length a.codes.now in
    let fits : set_at + length codes ≤ length a.state.now = omega (arith, pre.few, pre.long) in
    let long = ap (λ (l : List ℕ). length l) c.begin.ensures ∙ begun-long a.initial codes (words_in a.transitions.now) a.state.now fits in
    (rw (sym w) pre.inside, omega (arith, w, long, fits))

pub returns : goal.returns
returns c =
    let a = c.args in let pre = c.requires.1 in let codes = words_in a.codes.now in let ts = words_in a.transitions.now in let n = length a.codes.now / 8 in
    let fits : set_at + length codes ≤ length a.state.now = omega (arith, pre.few, pre.long) in c.replay.ensures
    ∙ ap (λ (s : List ℕ). with_set (stepped_over n ts (letters_in s) (take n (set_bytes s))) s) c.begin.ensures
    ∙ refresh-end a.initial codes ts a.state.now fits n (sym (words-in-length a.codes.now))
