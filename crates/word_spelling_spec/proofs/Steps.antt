-- The letter of each step of a word: that of its place at first, and from the lead-in on again after each cycle.
use mathlib.Core.Path.{◌≡◌, refl, sym, ◌∙◌, ap}
use mathlib.Core.List.{List, [], ◌∷◌, ◌++◌}
use Prim.Native.Nat.{ℕ, zero, suc, ◌+◌, ◌-◌, ◌≤◌, ◌<◌}
use native.Mathlib.Omega.{arith}
use native.Mathlib.Nat.{add-zero, add-suc}
use lib.ListN.{length, get_or}
use Rattle.theory.specs.Word.{places, next_place_lem, letter_at_lem, place, letters}
use Rattle.theory_laws.proofs.Places.{next-place-last, next-place-other, letter-behind}

module _ (lead cycle : List ℕ) (repeats : 0 < length cycle) where
  -- the first steps stand at the places in order
  pub place_is : (i : ℕ) → i < places lead cycle → place (next_place_lem lead cycle) i ≡ i
  unfolding place
  place_is zero l = refl
  place_is (suc i) l = ap (next_place_lem lead cycle) (place_is i (omega arith)) ∙ next-place-other lead cycle i (λ e. omega arith)

  pub letter-is : (i : ℕ) → i < places lead cycle → letters lead cycle i ≡ get_or (lead ++ cycle) i 0
  letter-is i l = unfold letter_at_lem in ap (letter_at_lem lead cycle) (place_is i l)

  -- after the last place comes the cycle's first
  place-turn : (j : ℕ) → suc j ≡ places lead cycle → place (next_place_lem lead cycle) (suc j) ≡ length lead
  place-turn j e = unfold place in ap (next_place_lem lead cycle) (place_is j (omega arith)) ∙ next-place-last lead cycle j e

  place-again : (k : ℕ) → place (next_place_lem lead cycle) (places lead cycle + k) ≡ place (next_place_lem lead cycle) (length lead + k)
  unfolding place
  place-again zero =
      let e : suc (places lead cycle - 1) ≡ places lead cycle + 0 = omega arith in
      ap (place (next_place_lem lead cycle)) (sym e) ∙ place-turn (places lead cycle - 1) (omega arith)
      ∙ sym (ap (place (next_place_lem lead cycle)) (add-zero (length lead)) ∙ place_is (length lead) (omega arith))
  place-again (suc k) =
      ap (place (next_place_lem lead cycle)) (add-suc (places lead cycle) k) ∙ ap (next_place_lem lead cycle) (place-again k)
      ∙ sym (ap (place (next_place_lem lead cycle)) (add-suc (length lead) k))

  -- from the lead-in on each letter comes again after a cycle
  pub letters-again : (i : ℕ) → length lead ≤ i → letters lead cycle (i + length cycle) ≡ letters lead cycle i
  letters-again i l =
      let k = i - length lead in
      let e : i + length cycle ≡ places lead cycle + k = omega arith in
      let f : length lead + k ≡ i = omega arith in
      ap (letters lead cycle) e ∙ ap (letter_at_lem lead cycle) (place-again k) ∙ ap (letters lead cycle) f

-- the letters behind the lead-in are those of the cycle alone
pub letters-behind : (lead cycle : List ℕ) → 0 < length cycle → (k : ℕ) → letters lead cycle (length lead + k) ≡ letters [] cycle k
letters-behind [] cycle h k = let e : 0 + k ≡ k = omega arith in ap (letters [] cycle) e
letters-behind (a ∷ lead) cycle h k =
    let e : suc (length lead) + k ≡ suc (length lead + k) = omega arith in
    ap (letters (a ∷ lead) cycle) e ∙ letter-behind a lead cycle h (length lead + k) ∙ letters-behind lead cycle h k
