-- The tests of a pair by its two numbers.
use mathlib.Core.Path.{◌≡◌, ap, ap₂}
use mathlib.Core.Bool.{true, false, ◌&&◌}
use mathlib.Core.List.{List}
use Prim.Native.Nat.{ℕ, ◌+◌, ◌*◌, ◌<◌}
use lib.Arith.{digits_div, digits_mod}
use lib.ListN.{length, get_or}
use Rattle.sets.specs.Tests.{Set}
use Rattle.theory.specs.Macrostate.{begun, is_accepting_lem}
use Rattle.stricter_laws.specs.Tests.{accepts_in, starts_in}

module _ (ca cb : List ℕ) (i j : ℕ) (low : j < length cb) where
  pub accepts-first : accepts_in ca cb false (i * length cb + j) ≡ is_accepting_lem (get_or ca i 0)
  unfolding accepts_in
  accepts-first = ap (λ (n : ℕ). is_accepting_lem (get_or ca n 0)) (digits_div i low)

  pub accepts-second : accepts_in ca cb true (i * length cb + j) ≡ is_accepting_lem (get_or cb j 0)
  unfolding accepts_in
  accepts-second = ap (λ (n : ℕ). is_accepting_lem (get_or cb n 0)) (digits_mod i low)

  pub starts-both : (start_a start_b : Set) → starts_in ca cb start_a start_b (i * length cb + j) ≡ (begun start_a (get_or ca i 0) && begun start_b (get_or cb j 0))
  unfolding starts_in
  starts-both start_a start_b = ap₂ (λ (m n : ℕ). begun start_a (get_or ca m 0) && begun start_b (get_or cb n 0)) (digits_div i low) (digits_mod i low)
