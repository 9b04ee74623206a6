-- Fields put together by shifts and disjunctions.
use mathlib.Core.Path.{◌≡◌, ◌∙◌, ap, ap₂}
use Prim.Native.Nat.{ℕ, ◌+◌, ◌*◌, ◌%◌, ◌^◌, ◌<◌}
use native.Mathlib.Omega.{arith}
use native.Mathlib.Nat.{mod-eq_of_lt, add_comm}
use lib.Bits.{bit_or, or_shifted, or_shifted_r}

-- a field a put above the k digits of b
pub put-field : (a k : ℕ) {b : ℕ} → b < 2 ^ k → a * 2 ^ k < 2 ^ 64 → bit_or b (a * 2 ^ k % 2 ^ 64) ≡ b + a * 2 ^ k
put-field a k {b} h f = rw (mod-eq_of_lt f) (or_shifted_r a k b h ∙ add_comm (a * 2 ^ k) b)

-- a transition's three fields
pub three-fields : (x a y : ℕ) → x < 2 ^ 40 → a < 256 → y < 65536
    → bit_or (bit_or (x * 2 ^ 24 % 2 ^ 64) (a * 2 ^ 16 % 2 ^ 64)) y ≡ x * 16777216 + a * 65536 + y
three-fields x a y hx ha hy =
    let fx : x * 2 ^ 24 < 2 ^ 64 = omega arith in
    let fa : a * 2 ^ 16 < 2 ^ 64 = omega arith in
    let e₁ : bit_or (x * 2 ^ 24) (a * 2 ^ 16) ≡ x * 2 ^ 24 + a * 2 ^ 16 = or_shifted x 24 (a * 2 ^ 16) (omega arith) in
    let e₂ : x * 2 ^ 24 + a * 2 ^ 16 ≡ (x * 256 + a) * 2 ^ 16 = omega arith in
    ap₂ (λ (u v : ℕ). bit_or (bit_or u v) y) (mod-eq_of_lt fx) (mod-eq_of_lt fa) ∙ ap (λ (u : ℕ). bit_or u y) (e₁ ∙ e₂) ∙ or_shifted (x * 256 + a) 16 y hy ∙ omega arith
