-- Whether a code's set holds a state, told by a digit.
use mathlib.Core.Path.{◌≡◌, sym, ◌∙◌}
use mathlib.Core.Bool.{true, false}
use Prim.Native.Nat.{ℕ, ◌/◌, ◌%◌, ◌^◌}
use lib.Bits.{bit_and, and_mask}
use borrow.Author.Tests.{eq-eqb, ne_eqb}
use Rattle.sets.specs.Masks.{bit}

module _ (c i : ℕ) where
  pub held : bit_and (c / 2 ^ i) 1 ≡ 1 → bit c i ≡ true
  unfolding bit
  held e = eq-eqb (c / 2 ^ i % 2) 1 (sym (and_mask (c / 2 ^ i) 1) ∙ e)

  pub lacking : (bit_and (c / 2 ^ i) 1 ≡ 1 → ⊥) → bit c i ≡ false
  unfolding bit
  lacking n = ne_eqb (c / 2 ^ i % 2) 1 (λ e. n (and_mask (c / 2 ^ i) 1 ∙ e))
