-- `arrive_quickly` meets its contract: what was tried is one of its facts, and then row 15 alone can refuse.
use Rattle.std.proofs.Common.{◌≡◌, ◌∙◌, ◌+◌, ◌/◌, true, false, [], ◌∷◌, List, ℕ, length, sym, ap, arith}
use Rattle.table_lent.specs.Lent.{words_in}
use Rattle.table_lent.proofs.Reading.{words-in-length}
use Rattle.live_spec.specs.State.{letters_at_byte, two_bytes}
use Rattle.live_spec.specs.Effects.{put}
use Rattle.live_arrive.specs.Tried.{passes}
use Rattle.live_arrive.proofs.Arrivals.{fifteen, no_row, made, quickly-untried, quickly-refused, quickly-served}
use Rattle.live_arrive.proofs.arrive_quickly.Goals as goal

pub returns-then-not-can_try : goal.returns-then-not-can_try
returns-then-not-can_try c = quickly-untried

pub step_part-requires : goal.step_part-requires
step_part-requires c = let t = c.can_try.ensures c.if-not-can_try.false in let w = words-in-length c.args.codes.now in
    (t.known, omega (arith, t.few), omega (arith, t.few, t.long), λ y l. t.flags y (omega arith))

pub returns-then-not-step_part : goal.returns-then-not-step_part
returns-then-not-step_part c =
    let a = c.args in let ts = words_in a.transitions.now in let no = c.if-not-step_part.true in let d = c.step_part.ensures in
    let fails : passes (length (words_in a.codes.now)) a.s ts ≡ false = ap (λ (n : ℕ). passes n a.s ts) (words-in-length a.codes.now) ∙ sym d.verdict ∙ no in
    quickly-refused (fifteen (c.can_try.ensures c.if-not-can_try.false) fails) (d.no no)

pub returns : goal.returns
returns c =
    let a = c.args in let t = c.can_try.ensures c.if-not-can_try.false in let d = c.step_part.ensures in let yes = c.if-not-step_part.false in
    let codes = words_in a.codes.now in let ts = words_in a.transitions.now in let n = length a.codes.now / 8 in let w = words-in-length a.codes.now in let k = c.number_at-k.result in
    let holds : passes (length codes) a.s ts ≡ true = ap (λ (i : ℕ). passes i a.s ts) w ∙ sym d.verdict ∙ yes in
    let written = c.put_byte.ensures ∙ ap (λ (x : List ℕ). put (letters_at_byte + k) (a.letter ∷ []) x)
    (c.put_number.ensures ∙ ap (λ (x : List ℕ). put 0 (two_bytes (k + 1)) x) (d.yes yes)) in
    quickly-served (no_row t holds) (λ q. written ∙ made q a.letter codes ts a.state.now t.long t.few t.free k n c.number_at-k.ensures (sym w))
