-- The places of a word: the one that follows a place, and those behind the first letter.
use mathlib.Core.Path.{◌≡◌, refl, sym, ◌∙◌, ap}
use mathlib.Core.Logic.{by_cases}
use mathlib.Core.List.{List, ◌∷◌}
use Prim.Native.Nat.{ℕ, zero, suc, ◌<◌}
use native.Mathlib.Omega.{arith}
use native.Mathlib.Decide.{ℕ_discrete}
use lib.ListN.{length}
use borrow.Author.Tests.{eq-eqb, ne_eqb}
use Rattle.theory.specs.Word.{places, next_place_lem, letter_at_lem, place, letters}

-- ---- the place that follows

module _ (lead cycle : List ℕ) (p : ℕ) where
  -- the last place is followed by the cycle's first
  pub next-place-last : suc p ≡ places lead cycle → next_place_lem lead cycle p ≡ length lead
  unfolding next_place_lem
  next-place-last e = rw (eq-eqb (suc p) (places lead cycle) e)

  pub next-place-other : (suc p ≡ places lead cycle → ⊥) → next_place_lem lead cycle p ≡ suc p
  unfolding next_place_lem
  next-place-other n = rw (ne_eqb (suc p) (places lead cycle) n)

module _ (lead cycle : List ℕ) (repeats : 0 < length cycle) where
  -- the place after a place is one
  pub next-place-low : (p : ℕ) → p < places lead cycle → next_place_lem lead cycle p < places lead cycle
  next-place-low p l =
      by_cases (ℕ_discrete (suc p) (places lead cycle)) (λ e. rw (next-place-last lead cycle p e) (omega arith))
      (λ n. rw (next-place-other lead cycle p n) (omega arith))

  -- every step stands at a place
  pub places-low : (i : ℕ) → place (next_place_lem lead cycle) i < places lead cycle
  unfolding place
  places-low zero = omega arith
  places-low (suc i) = next-place-low (place (next_place_lem lead cycle) i) (places-low i)

-- ---- one letter more in front

module _ (a : ℕ) (lead cycle : List ℕ) where
  pub next-place-behind : (p : ℕ) → next_place_lem (a ∷ lead) cycle (suc p) ≡ suc (next_place_lem lead cycle p)
  next-place-behind p =
      by_cases (ℕ_discrete (suc p) (places lead cycle))
      (λ e. next-place-last (a ∷ lead) cycle (suc p) (omega arith) ∙ sym (ap suc (next-place-last lead cycle p e)))
      (λ n. next-place-other (a ∷ lead) cycle (suc p) (λ e. n (omega arith)) ∙ sym (ap suc (next-place-other lead cycle p n)))

  pub letter-first : letters (a ∷ lead) cycle 0 ≡ a
  unfolding letter_at_lem place
  letter-first = refl

  module _ (repeats : 0 < length cycle) where
    pub next-place-first : next_place_lem (a ∷ lead) cycle 0 ≡ 1
    next-place-first = next-place-other (a ∷ lead) cycle 0 (λ e. omega arith)

    pub place-behind : (i : ℕ) → place (next_place_lem (a ∷ lead) cycle) (suc i) ≡ suc (place (next_place_lem lead cycle) i)
    unfolding place
    place-behind zero = next-place-first
    place-behind (suc i) = ap (next_place_lem (a ∷ lead) cycle) (place-behind i) ∙ next-place-behind (place (next_place_lem lead cycle) i)

    pub letter-behind : (i : ℕ) → letters (a ∷ lead) cycle (suc i) ≡ letters lead cycle i
    unfolding letter_at_lem
    letter-behind i = ap (letter_at_lem (a ∷ lead) cycle) (place-behind i)
