-- The digit of a transition that tells whether a component is spared.
use mathlib.Core.Path.{◌≡◌}
use mathlib.Core.Bool.{true, false}
use Prim.Native.Nat.{ℕ, ◌+◌, ◌/◌, ◌^◌}
use lib.Bits.{bit_and}
use Rattle.codes.proofs.Starts.{held, lacking}
use Rattle.stricter_spec.specs.Tags.{sparing}

-- the digit that tells whether component k is spared
pub digit-spares : (t k : ℕ) → bit_and (t / 2 ^ (56 + k)) 1 ≡ 1 → sparing t k ≡ true
unfolding sparing
digit-spares t k = held t (56 + k)

pub digit_not : (t k : ℕ) → (bit_and (t / 2 ^ (56 + k)) 1 ≡ 1 → ⊥) → sparing t k ≡ false
unfolding sparing
digit_not t k = lacking t (56 + k)
