-- Clauses inside one another.
use mathlib.Core.Path.{◌≡◌, ap}
use mathlib.Core.Logic.{by_cases}
use mathlib.Core.Bool.{true, false, not}
use Prim.Native.Nat.{ℕ, ◌^◌, ◌<◌}
use native.Mathlib.Omega.{arith}
use native.Mathlib.Decide.{ℕ_discrete}
use Rattle.sets.specs.Masks.{bit}
use Rattle.sets.proofs.Bools.{bif, clash, and_l, and_r, and_i, not_t, iff}
use Rattle.sets.proofs.Bits.{bit-ext, subset-le}
use Rattle.sets.proofs.Members.{inside-at, inside-all}
use Rattle.rule_tidy_spec.specs.Tidy.{contains, properly_contains}

pub contains-refl : (n c : ℕ) → contains n c c ≡ true
contains-refl n c = inside-all n (bit c) c (λ q l b. b)

-- clauses over n states that contain each other are equal
pub contains-antisym : (n c d : ℕ) → c < 2 ^ n → d < 2 ^ n → contains n c d ≡ true → contains n d c ≡ true → c ≡ d
contains-antisym n c d k l e h = bit-ext n c d k l (λ q m. iff (bit c q) (bit d q) (inside-at n (bit d) c h q m) (inside-at n (bit c) d e q m))

pub properly-out : (n c d : ℕ) → properly_contains n c d ≡ true → (contains n c d ≡ true) × (contains n d c ≡ false)
unfolding properly_contains
properly-out n c d e = (and_l (contains n c d) _ e, not_t _ (and_r (contains n c d) (not (contains n d c)) e))

-- a clause that is contained, and not properly, contains in turn
pub not-properly : (n c d : ℕ) → properly_contains n c d ≡ false → contains n c d ≡ true → contains n d c ≡ true
not-properly n c d e h = unfold properly_contains in bif (contains n d c) (λ t. t) (λ t. clash (and_i h (ap not t)) e)

-- no clause contains itself properly
pub properly-irrefl : (n c : ℕ) → properly_contains n c c ≡ false
properly-irrefl n c = unfold properly_contains in rw (contains-refl n c)

-- what is not contained is not contained properly
pub properly-none : (n c d : ℕ) → contains n c d ≡ false → properly_contains n c d ≡ false
properly-none n c d e = unfold properly_contains in rw e

-- a clause over n states is smaller than one that contains it properly
pub properly-lt : (n c d : ℕ) → d < 2 ^ n → properly_contains n c d ≡ true → d < c
properly-lt n c d l e =
    let r = properly-out n c d e in let h = subset-le n d c l (inside-at n (bit c) d r.0) in
    by_cases (ℕ_discrete d c) (λ x. clash (rw x (contains-refl n c)) r.1) (λ x. omega arith)
