-- Sameness: words that agree at as many steps as both have places together agree at every step.
use mathlib.Core.Path.{◌≡◌, sym, ◌∙◌, ap}
use mathlib.Core.Logic.{◌↔◌, by_cases}
use mathlib.Core.Bool.{true}
use mathlib.Core.List.{List}
use Prim.Native.Nat.{ℕ, zero, suc, ◌+◌, ◌-◌, ◌<◌}
use native.Mathlib.Omega.{arith}
use native.Mathlib.Decide.{dec_lt}
use lib.Dec.{eqb}
use lib.ListN.{length}
use borrow.Author.Tests.{eqb-true, eq-eqb}
use Rattle.sets.proofs.Tests.{every-at, every-all}
use Rattle.theory.specs.Word.{places, letters}
use Rattle.word_spelling_spec.specs.Spelling.{Agree}
use Rattle.word_spelling_spec.specs.SpellingComputed.{same_word}
use Rattle.word_spelling_spec.proofs.Steps.{letters-again}

module _ (l₁ c₁ l₂ c₂ : List ℕ) (h₁ : 0 < length c₁) (h₂ : 0 < length c₂) where
  -- a step past them comes a cycle of each earlier, and both cycles earlier
  beyond : ((i : ℕ) → i < places l₁ c₁ + places l₂ c₂ → letters l₁ c₁ i ≡ letters l₂ c₂ i) → (b i : ℕ) → i < b → letters l₁ c₁ i ≡ letters l₂ c₂ i
  beyond e zero i l = absurd (omega arith)
  beyond e (suc b) i l =
      by_cases (dec_lt i (places l₁ c₁ + places l₂ c₂)) (e i)
      (λ n.
      let j = i - length c₁ - length c₂ in
      let one : j + length c₂ + length c₁ ≡ i = omega arith in
      let two : j + length c₁ + length c₂ ≡ i = omega arith in
      ap (letters l₁ c₁) (sym one) ∙ letters-again l₁ c₁ h₁ (j + length c₂) (omega arith) ∙ beyond e b (j + length c₂) (omega arith)
      ∙ letters-again l₂ c₂ h₂ j (omega arith) ∙ sym (beyond e b j (omega arith)) ∙ sym (letters-again l₁ c₁ h₁ j (omega arith))
      ∙ beyond e b (j + length c₁) (omega arith) ∙ sym (letters-again l₂ c₂ h₂ (j + length c₁) (omega arith)) ∙ ap (letters l₂ c₂) two)

  -- 02: "Two words are from now on the same if they agree at every step."
  pub same-word-iff : (same_word l₁ c₁ l₂ c₂ ≡ true) ↔ Agree l₁ c₁ l₂ c₂
  unfolding same_word
  same-word-iff = (
    λ t i. beyond (λ j l. eqb-true _ _ (every-at (places l₁ c₁ + places l₂ c₂) (λ x. eqb (letters l₁ c₁ x) (letters l₂ c₂ x)) t j l)) (suc i) i (omega arith),
    λ a. every-all (places l₁ c₁ + places l₂ c₂) (λ x. eqb (letters l₁ c₁ x) (letters l₂ c₂ x)) (λ j l. eq-eqb _ _ (a j)),
  )
