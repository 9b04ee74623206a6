-- The digits of a number by pairs.
use mathlib.Core.Path.{◌≡◌, ◌∙◌, ap}
use mathlib.Core.List.{List, [], ◌∷◌, ◌++◌, append_assoc}
use Prim.Native.Nat.{ℕ, ◌+◌, ◌/◌, ◌%◌, ◌≤◌, ◌<◌}
use native.Mathlib.Omega.{arith}
use lib.ListN.{length, length-append}
use Rattle.slice_text.specs.Decimal.{digit, decimal}
use Rattle.slice_text.proofs.Decimal.{one-digit, more-digits}

-- the last two digits
abbrev pub pair : ℕ → List ℕ
pair x = digit (x / 10 % 10) ∷ digit (x % 10) ∷ []

-- two digits are the whole number
pub two_digits : (x : ℕ) → 10 ≤ x → x < 100 → decimal x ≡ pair x
two_digits x h l =
    let e : x / 10 ≡ x / 10 % 10 = omega arith in
    more-digits x h ∙ ap (λ (s : List ℕ). s ++ (digit (x % 10) ∷ [])) (one-digit (x / 10) (omega arith) ∙ ap (λ (k : ℕ). digit k ∷ []) e)

-- the digits before the last two, and these
pub pair-last : (x : ℕ) → 100 ≤ x → decimal x ≡ decimal (x / 100) ++ pair x
pair-last x h =
    let q : x / 10 / 10 ≡ x / 100 = omega arith in
    more-digits x (omega arith)
    ∙ ap (λ (s : List ℕ). s ++ (digit (x % 10) ∷ [])) (more-digits (x / 10) (omega arith) ∙ ap (λ (k : ℕ). decimal k ++ (digit (x / 10 % 10) ∷ [])) q)
    ∙ append_assoc (decimal (x / 100)) (digit (x / 10 % 10) ∷ []) (digit (x % 10) ∷ [])

pub pair-length : (x : ℕ) → 100 ≤ x → length (decimal x) ≡ length (decimal (x / 100)) + 2
pair-length x h = ap length (pair-last x h) ∙ length-append (decimal (x / 100)) (pair x)

-- the digits before the last four, and these
pub pairs-last : (x : ℕ) → 10000 ≤ x → decimal x ≡ decimal (x / 10000) ++ (pair (x / 100) ++ pair x)
pairs-last x h =
    let q : x / 100 / 100 ≡ x / 10000 = omega arith in
    pair-last x (omega arith)
    ∙ ap (λ (s : List ℕ). s ++ pair x) (pair-last (x / 100) (omega arith) ∙ ap (λ (k : ℕ). decimal k ++ pair (x / 100)) q)
    ∙ append_assoc (decimal (x / 10000)) (pair (x / 100)) (pair x)

pub pairs-length : (x : ℕ) → 10000 ≤ x → length (decimal x) ≡ length (decimal (x / 10000)) + 4
pairs-length x h = ap length (pairs-last x h) ∙ length-append (decimal (x / 10000)) (pair (x / 100) ++ pair x)
