-- The flags of codes, one by one.
use mathlib.Core.Path.{◌≡◌, refl, ◌∙◌, ap}
use mathlib.Core.Bool.{Bool, true, false}
use mathlib.Core.List.{List, [], ◌∷◌}
use Prim.Native.Nat.{ℕ, zero, suc, ◌+◌, ◌*◌, ◌<◌}
use native.Mathlib.Omega.{arith}
use native.Mathlib.Nat.{le_of_suc-le-suc}
use lib.ListN.{length, get_or}
use Rattle.sets.specs.Tests.{Set, one}
use Rattle.sets.specs.Masks.{bit}
use Rattle.theory.specs.Macrostate.{is_accepting_lem}
use Rattle.hoa_spec.specs.Text.{flag_of_lem, flags_of}

low : (a b : Bool) → bit (one a + 2 * one b) 0 ≡ a
unfolding bit
low true true = refl
low true false = refl
low false true = refl
low false false = refl

high : (a b : Bool) → bit (one a + 2 * one b) 1 ≡ b
unfolding bit
high true true = refl
high true false = refl
high false true = refl
high false false = refl

module _ (initial : Set) where
  pub flag-initial : (c : ℕ) → bit (flag_of_lem initial c) 0 ≡ initial c
  unfolding flag_of_lem
  flag-initial c = low (initial c) (is_accepting_lem c)

  pub flag-accepting : (c : ℕ) → bit (flag_of_lem initial c) 1 ≡ is_accepting_lem c
  unfolding flag_of_lem
  flag-accepting c = high (initial c) (is_accepting_lem c)

  pub flags-length : (codes : List ℕ) → length (flags_of initial codes) ≡ length codes
  unfolding flags_of
  flags-length [] = refl
  flags-length (c ∷ codes) = ap suc (flags-length codes)

  pub flags-at : (codes : List ℕ) (i : ℕ) → i < length codes → get_or (flags_of initial codes) i 0 ≡ flag_of_lem initial (get_or codes i 0)
  unfolding flags_of
  flags-at [] i h = absurd (omega arith)
  flags-at (c ∷ codes) zero h = refl
  flags-at (c ∷ codes) (suc i) h = flags-at codes i (le_of_suc-le-suc h)

  -- the flag of a number
  pub initial-at : (codes : List ℕ) (i : ℕ) → i < length codes → bit (get_or (flags_of initial codes) i 0) 0 ≡ initial (get_or codes i 0)
  initial-at codes i h = ap (λ (f : ℕ). bit f 0) (flags-at codes i h) ∙ flag-initial (get_or codes i 0)

  pub accepting-at : (codes : List ℕ) (i : ℕ) → i < length codes → bit (get_or (flags_of initial codes) i 0) 1 ≡ is_accepting_lem (get_or codes i 0)
  accepting-at codes i h = ap (λ (f : ℕ). bit f 1) (flags-at codes i h) ∙ flag-accepting (get_or codes i 0)
