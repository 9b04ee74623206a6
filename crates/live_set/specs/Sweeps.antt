-- A letter in one sweep over the transitions: bit 0 of a byte is of the set before the letter, bit 1 of the set after it.
use Rattle.std.specs.Prelude.{◌≡◌, ◌&&◌, cond, List, ℕ, ◌+◌, ◌*◌, ◌%◌, ◌<◌, eqb, ltb, length, get_or, set}
use Rattle.sets.specs.Tests.{one}
use Rattle.sets.specs.Lists.{any_of}
use Rattle.theory.specs.Run.{source_of, letter_of_lem, target_of}
use Rattle.live_spec.specs.Afresh.{enters}

-- a byte as 0 or 1
abbrev pub flag_of_lem : ℕ → ℕ
flag_of_lem v = one (ltb 0 v)

-- a transition over the letter from a source with bit 0 has bit 1 of its target set
unfoldable pub moved : ℕ → ℕ → List ℕ → List ℕ
moved a t bytes =
    cond (eqb (letter_of_lem t) a && eqb (get_or bytes (source_of t) 0 % 2) 1) (set bytes (target_of t) (2 + get_or bytes (target_of t) 0 % 2)) bytes

-- after the transitions bit 1 is set in the bytes that one of them enters, and bit 0 is as before
pub record Swept (a : ℕ) (ts before after : List ℕ) : Type 0 where
  pub long : length after ≡ length before
  pub at : (y : ℕ) → y < length before → get_or after y 0 ≡ get_or before y 0 + 2 * one (any_of ts (enters before a y))
