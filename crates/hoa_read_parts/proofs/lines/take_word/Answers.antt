-- `take_word` meets its contract: the digits follow a blank.
use Rattle.std.proofs.Common.{refl, arith}
use Rattle.std.specs.Prelude.{Option, None, Some, MatchOption}
use mathlib.Core.Logic.{inl, inr}
use Rattle.hoa_laws.proofs.Taking.{word-no-blank, word-no-digit, word-digits}
use Rattle.hoa_read_parts.proofs.lines.take_word.Goals as goal

-- nothing answers nothing, and what is answered has what it asks
through : {A P P' : Type 0} {Q Q' : A → Type 0} (o : Option A) → (P → P') → ((x : A) → Q x → Q' x) → MatchOption o P Q → MatchOption o P' Q'
through None f g h = f h
through (Some x) f g h = g x h

pub returns-in_err-a : goal.returns-in_err-a
returns-in_err-a c = rw c.from_residual.ensures (word-no-blank c.in_err-a.ensures refl refl)

pub returns-then-c-lt48 : goal.returns-then-c-lt48
returns-then-c-lt48 c = let A = c.in_ok-a.ensures in word-no-digit A.1 A.0 (A.2 (omega arith)) (inl c.if-c-lt48.true) refl

pub returns-then-c-gt57 : goal.returns-then-c-gt57
returns-then-c-gt57 c = let A = c.in_ok-a.ensures in word-no-digit A.1 A.0 (A.2 (omega arith)) (inr c.if-c-gt57.true) refl

pub returns : goal.returns
returns c = let A = c.in_ok-a.ensures in
    through c.take_digits.result (word-digits A.1 A.0 (A.2 (omega arith)) c.if-c-lt48.false c.if-c-gt57.false)
    (λ n D. (D.0, word-digits A.1 A.0 (A.2 (omega arith)) c.if-c-lt48.false c.if-c-gt57.false D.1)) c.take_digits.ensures
