-- Numbers from a to b, and the first number that passes a test.
use mathlib.Core.Path.{◌≡◌, ◌∙◌, ap}
use mathlib.Core.Logic.{by_cases}
use mathlib.Core.Bool.{true, false}
use Prim.Native.Nat.{ℕ, ◌+◌, ◌-◌, ◌≤◌, ◌<◌}
use native.Mathlib.Omega.{arith}
use native.Mathlib.Decide.{dec_lt}
use native.Mathlib.Nat.{zero-add}
use lib.Dec.{leb}
use borrow.Author.Tests.{leb-true, le-leb}
use Rattle.sets.specs.Tests.{Set, some_below, first}
use Rattle.sets.proofs.Bools.{bif, clash, and_l, and_r, and_i}
use Rattle.sets.proofs.Tests.{every-at, every-not, some-get, some-no, some-none, first-le, first-at}
use Rattle.event_spec.specs.Events.{within, between}

pub within-out : (a b x : ℕ) → within a b x ≡ true → (a ≤ x) × (x ≤ b)
within-out a b x e = (leb-true a x (and_l (leb a x) (leb x b) e), leb-true x b (and_r (leb a x) (leb x b) e))

pub within_in : (a b x : ℕ) → a ≤ x → x ≤ b → within a b x ≡ true
within_in a b x l h = and_i (le-leb a x l) (le-leb x b h)

pub between-at : (a b : ℕ) (f : Set) → between a b f ≡ true → (x : ℕ) → a ≤ x → x ≤ b → f x ≡ true
between-at a b f e x l h = let z : x ≡ a + (x - a) = omega arith in ap f z ∙ every-at (b + 1 - a) (λ i. f (a + i)) e (x - a) (omega arith)

pub between-not : (a b : ℕ) (f : Set) → between a b f ≡ false → (x : ℕ) × (a ≤ x) × (x ≤ b) × (f x ≡ false)
between-not a b f e = let r = every-not (b + 1 - a) (λ i. f (a + i)) e in (a + r.0, omega arith, omega (arith, r.1), r.2)

-- ---- the first number below n

module _ (n : ℕ) (f : Set) where
  -- a number that passes, and none before it
  pub first-is : (j : ℕ) → j < n → f j ≡ true → some_below j f ≡ false → first n f 0 ≡ j
  first-is j l t none =
      let a = first-le n f 0 j (omega arith) t in
      let h = first-at n f 0 j (omega arith) (omega (arith, zero-add n)) t in
      by_cases (dec_lt (first n f 0) j) (λ k. clash h (some-no j f none (first n f 0) k)) (λ k. omega arith)

  -- there is none before it
  pub none_before : some_below (first n f 0) f ≡ false
  none_before = some-none (first n f 0) f (λ q l. bif (f q) (λ t. let k = first-le n f 0 q (omega arith) t in absurd (omega arith)) (λ t. t))

  pub first_found : some_below n f ≡ true → (first n f 0 < n) × (f (first n f 0) ≡ true)
  first_found e =
      let r = some-get n f e in
      (omega (arith, r.1, first-le n f 0 r.0 (omega arith) r.2), first-at n f 0 r.0 (omega arith) (omega (arith, r.1, zero-add n)) r.2)
