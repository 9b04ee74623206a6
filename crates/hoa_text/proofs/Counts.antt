-- How long words and labels are, counted.
use mathlib.Core.Path.{◌≡◌, ap}
use mathlib.Core.List.{[], ◌∷◌}
use mathlib.Core.Logic.{by_cases}
use Prim.Native.Nat.{ℕ, zero, suc, ◌+◌, ◌-◌, ◌/◌, ◌%◌, ◌^◌, ◌≤◌, ◌<◌}
use native.Mathlib.Omega.{arith}
use native.Mathlib.Nat.{pow-suc}
use native.Mathlib.Decide.{ℕ_discrete}
use lib.Bits.{bit_and, and_mask}
use lib.ListN.{length, length-append}
use Rattle.slice_text.specs.Decimal.{digit, decimal, word}
use Rattle.slice_text.proofs.Decimal.{one-digit, more-digits, word-length}
use Rattle.hoa_spec.specs.Lines.{literal, label}
use Rattle.hoa_text.proofs.Labels.{set-literal, unset-literal, label-one, label-next}

-- a number from 10 ^ m up to below 10 ^ (m + 1) has m + 1 digits
digits-exact : (m x : ℕ) → 10 ^ m ≤ x → x < 10 ^ suc m → length (decimal x) ≡ suc m
digits-exact zero x h l = ap length (one-digit x (omega arith))
digits-exact (suc m) x h l =
    let p = pow-suc 10 m in
    let q = pow-suc 10 (suc m) in
    let ih = digits-exact m (x / 10) (omega (arith, p)) (omega (arith, q)) in
    omega (arith, ih, ap length (more-digits x (omega (arith, p))), length-append (decimal (x / 10)) (digit (x % 10) ∷ []))

pub word-one : (x : ℕ) → x < 10 → 2 ≡ length (word x)
word-one x h = omega (arith, word-length x, ap length (one-digit x h))

pub word_more : (m x : ℕ) → 10 ^ m ≤ x → x < 10 ^ suc m → m + 2 ≡ length (word x)
word_more m x h l = omega (arith, word-length x, digits-exact m x h l)

module _ (letter : ℕ) where
  -- a literal by its bit
  pub literal-counts : (i : ℕ) → length (literal letter i) + bit_and (letter / 2 ^ i) 1 ≡ 2
  literal-counts i =
      let m = and_mask (letter / 2 ^ i) 1 in
      by_cases (ℕ_discrete (bit_and (letter / 2 ^ i) 1) 1)
      (λ e. omega (arith, e, ap length (set-literal letter i e)))
      (λ n. let z : bit_and (letter / 2 ^ i) 1 ≡ 0 = omega (arith, m, n) in omega (arith, z, ap length (unset-literal letter i n)))

  -- one literal more
  pub label-counts : (i total : ℕ) → 1 ≤ i → total ≡ length (label i letter) → total + (3 - bit_and (letter / 2 ^ i) 1) ≡ length (label (i + 1) letter)
  label-counts i total h e = omega (arith, e, ap length (label-next letter i h), length-append (label i letter) (38 ∷ literal letter i), literal-counts i)

  -- the first literal
  pub first-counts : length (label 1 letter) + bit_and letter 1 ≡ 2
  first-counts =
      let e : letter / 2 ^ 0 ≡ letter = omega arith in
      omega (arith, literal-counts 0, ap length (label-one letter), ap (λ (x : ℕ). bit_and x 1) e)
