-- The digits of a number, written from the high ones on.
use mathlib.Core.Path.{◌≡◌, ◌∙◌, ap}
use mathlib.Core.List.{List, [], ◌∷◌}
use Prim.Native.Nat.{ℕ, ◌+◌, ◌/◌, ◌%◌, ◌≤◌, ◌<◌}
use native.Mathlib.Omega.{arith}
use lib.ListN.{length, length-append}
use Rattle.slice_text.specs.Decimal.{digit, decimal}
use Rattle.slice_text.specs.Put.{Put}
use Rattle.slice_text.proofs.Decimal.{one-digit, more-digits}
use Rattle.slice_text.proofs.Puts.{put_as, put_then}

module _ (x : ℕ) where
  -- one digit
  module _ (h : x < 10) where
    pub room-one : (at : ℕ) {n : ℕ} → at + length (decimal x) ≤ n → at < n
    room-one at l = omega (arith, ap length (one-digit x h))

    pub put-digit : {d : List ℕ} {at y : ℕ} {d₁ : List ℕ} {r : ℕ} → y ≡ digit x → Put d at (y ∷ []) d₁ r → Put d at (decimal x) d₁ r
    put-digit e P = put_as (one-digit x h ∙ rw e) P

  -- the digits before the last, and the last
  module _ (h : 10 ≤ x) where
    pub room-more : (at : ℕ) {n : ℕ} → at + length (decimal x) ≤ n → at + length (decimal (x / 10)) < n
    room-more at l = omega (arith, ap length (more-digits x h), length-append (decimal (x / 10)) (digit (x % 10) ∷ []))

    pub put-digits : {d : List ℕ} {at y : ℕ} {d₁ d₂ : List ℕ} {e r : ℕ} → y ≡ digit (x % 10) → Put d at (decimal (x / 10)) d₁ e → Put d₁ e (y ∷ []) d₂ r → Put d at (decimal x) d₂ r
    put-digits q P Q = put_as (more-digits x h ∙ rw q) (put_then P Q)
