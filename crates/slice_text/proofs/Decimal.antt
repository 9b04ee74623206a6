-- The digits of a number: the last one and those before it, and how many there are.
use mathlib.Core.Path.{◌≡◌, refl, sym, ◌∙◌}
use mathlib.Core.List.{[], ◌∷◌, ◌++◌}
use Prim.Native.Nat.{ℕ, zero, suc, ◌+◌, ◌/◌, ◌%◌, ◌^◌, ◌≤◌, ◌<◌}
use native.Mathlib.Omega.{arith}
use native.Mathlib.Nat.{pow-suc}
use lib.Dec.{ltb}
use lib.ListN.{length, length-append}
use borrow.Author.Tests.{lt-ltb, le-ltb, ltb-true, ltb-false}
use Rattle.sets.proofs.Bools.{bif}
use Rattle.slice_text.specs.Decimal.{digit, digits_in, decimal, word}

in_one : (m x : ℕ) → x < 10 → digits_in m x ≡ digit x ∷ []
unfolding digits_in
in_one zero x h = refl
in_one (suc m) x h = rw (lt-ltb x 10 h, digits_in)

in-more : (m x : ℕ) → 10 ≤ x → digits_in (suc m) x ≡ digits_in m (x / 10) ++ (digit (x % 10) ∷ [])
unfolding digits_in
in-more m x h = rw (le-ltb x 10 h, digits_in)

-- x steps are enough
steady : (m k x : ℕ) → x ≤ m → x ≤ k → digits_in m x ≡ digits_in k x
steady zero k x h g = rw (in_one zero x (omega arith), in_one k x (omega arith))
steady (suc m) zero x h g = rw (in_one (suc m) x (omega arith), in_one zero x (omega arith))
steady (suc m) (suc k) x h g =
    bif (ltb x 10)
    (λ t. let l = ltb-true x 10 t in in_one (suc m) x l ∙ sym (in_one (suc k) x l))
    (λ t. let l = ltb-false x 10 t in rw (in-more m x l, in-more k x l, steady m k (x / 10) (omega arith) (omega arith)))

pub one-digit : (x : ℕ) → x < 10 → decimal x ≡ digit x ∷ []
unfolding decimal
one-digit x h = in_one x x h

pub more-digits : (x : ℕ) → 10 ≤ x → decimal x ≡ decimal (x / 10) ++ (digit (x % 10) ∷ [])
unfolding decimal
more-digits zero h = absurd (omega arith)
more-digits (suc x) h = rw (in-more x (suc x) h, steady x (suc x / 10) (suc x / 10) (omega arith) (omega arith))

-- a number below 10 ^ (m + 1) has at most m + 1 digits
pub decimal-length : (m x : ℕ) → x < 10 ^ suc m → length (decimal x) ≤ suc m
decimal-length zero x h = rw (one-digit x (omega arith)) (omega arith)
decimal-length (suc m) x h =
    bif (ltb x 10)
    (λ t. rw (one-digit x (ltb-true x 10 t)) (omega arith))
    (λ t. let l = decimal-length m (x / 10) (omega (arith, pow-suc 10 (suc m))) in
    rw (more-digits x (ltb-false x 10 t), length-append (decimal (x / 10)) (digit (x % 10) ∷ [])) (omega arith))

pub word-length : (x : ℕ) → length (word x) ≡ 1 + length (decimal x)
unfolding word
word-length x = omega arith
