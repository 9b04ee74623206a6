-- Lengths of sets, and sets that are the same where they are read.
use mathlib.Core.Path.{◌≡◌, refl, sym, ◌∙◌, ap, ap₂}
use mathlib.Core.Bool.{Bool, true, false, ◌||◌}
use mathlib.Core.List.{List, [], ◌∷◌, ◌++◌, Memᴰ}
use Prim.Native.Nat.{ℕ, zero, suc, ◌≤◌, ◌<◌}
use native.Mathlib.Nat.{zero-add}
use native.Mathlib.Omega.{arith}
use lib.Dec.{ltb}
use lib.ListN.{length, get_or, length-map}
use Rattle.sets.specs.Lists.{any_of, tabulate}
use Rattle.sets.specs.Tests.{Set, one}
use Rattle.sets.proofs.Lists.{any-cons, length-tabulate, tabulate-at}
use Rattle.theory.specs.Run.{source_of}
use Rattle.live_spec.specs.Afresh.{is_in, enters, stepped, stepped_over, initial_set}

-- ---- bytes 0 and 1

pub one-low : (b : Bool) → one b ≤ 1
one-low true = omega arith
one-low false = omega arith

-- a byte made of a test is not 0 exactly if the test holds
pub in_one : (b : Bool) → ltb 0 (one b) ≡ b
in_one true = refl
in_one false = refl

-- ---- tables and tests that are the same

pub table_at : (n : ℕ) (f : ℕ → ℕ) (y : ℕ) → y < n → get_or (tabulate n f 0) y 0 ≡ f y
table_at n f y l = tabulate-at n f 0 y l ∙ ap f (zero-add y)

tabulate-ext : (n k : ℕ) (f g : ℕ → ℕ) → ((y : ℕ) → f y ≡ g y) → tabulate n f k ≡ tabulate n g k
unfolding tabulate
tabulate-ext zero k f g h = refl
tabulate-ext (suc n) k f g h = ap₂ (λ (u : ℕ) (v : List ℕ). u ∷ v) (h k) (tabulate-ext n (suc k) f g h)

any-ext : (xs : List ℕ) (f g : Set) → ((x : ℕ) → Memᴰ x xs → f x ≡ g x) → any_of xs f ≡ any_of xs g
unfolding any_of
any-ext [] f g h = refl
any-ext (x ∷ xs) f g h = any-cons f x xs ∙ ap₂ (λ (u v : Bool). u || v) (h x (Memᴰ.head refl)) (any-ext xs f g (λ y m. h y (Memᴰ.tail m))) ∙ sym (any-cons g x xs)

-- sets that agree on the sources step to the same
pub step-ext : (n : ℕ) (ts : List ℕ) (a : ℕ) (xs ys : List ℕ) → ((t : ℕ) → Memᴰ t ts → is_in xs (source_of t) ≡ is_in ys (source_of t)) → stepped n ts a xs ≡ stepped n ts a ys
unfolding stepped enters
step-ext n ts a xs ys h = tabulate-ext n 0 (λ y. one (any_of ts (enters xs a y))) (λ y. one (any_of ts (enters ys a y))) (λ y. ap one (any-ext ts (enters xs a y) (enters ys a y) (λ t m. rw (h t m))))

-- ---- one letter, and letters

pub initial-length : (q : ℕ) (codes : List ℕ) → length (initial_set q codes) ≡ length codes
unfolding initial_set
initial-length q codes = length-map codes _

module _ (n : ℕ) (ts : List ℕ) where
  pub stepped-length : (a : ℕ) (set : List ℕ) → length (stepped n ts a set) ≡ n
  unfolding stepped
  stepped-length a set = length-tabulate n _ 0

  pub over-length : (l set : List ℕ) → length set ≡ n → length (stepped_over n ts l set) ≡ n
  unfolding stepped_over
  over-length [] set e = e
  over-length (a ∷ l) set e = over-length l (stepped n ts a set) (stepped-length a set)

  -- one more letter is one more step
  pub over-more : (l set : List ℕ) (a : ℕ) → stepped_over n ts (l ++ (a ∷ [])) set ≡ stepped n ts a (stepped_over n ts l set)
  unfolding stepped_over
  over-more [] set a = refl
  over-more (b ∷ l) set a = over-more l (stepped n ts b set) a
