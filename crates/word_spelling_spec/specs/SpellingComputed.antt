-- The tidy spelling and sameness, computed: the one that `Tidy` describes, by proofs/Tidied, and agreement at every step, by proofs/Same.
use Rattle.std.specs.Prelude.{Bool, true, false, List, [], ◌++◌, ℕ, zero, suc, ◌+◌, eqb, length, take, drop}
use Rattle.sets.specs.Tests.{every, first}
use Rattle.theory.specs.Word.{places, letters}

-- whether each letter of the cycle comes again d steps on
unfoldable pub comes_again_lem : List ℕ → ℕ → Bool
comes_again_lem cycle d = every (length cycle) (λ j. eqb (letters [] cycle (j + d)) (letters [] cycle j))

-- the length of the shortest cycle
unfoldable pub cycle_length_lem : List ℕ → ℕ
cycle_length_lem cycle = first (length cycle) (comes_again_lem cycle) 1

-- how many of the first m steps of w are left once the last step is taken away as long as its letter is the one p steps on
unfoldable pub shortened : (ℕ → ℕ) → ℕ → ℕ → ℕ
shortened w p zero = 0
shortened w p (suc m) = elim (eqb (w m) (w (m + p))) [ true ↦ shortened w p m | false ↦ suc m ]

-- the length of the shortest lead-in before the shortest cycle
unfoldable pub lead_length_lem : List ℕ → List ℕ → ℕ
lead_length_lem lead cycle = shortened (letters lead cycle) (cycle_length_lem cycle) (length lead)

-- the tidy spelling of a word begins with the letters of its first places
unfoldable pub tidy_lead : List ℕ → List ℕ → List ℕ
tidy_lead lead cycle = take (lead_length_lem lead cycle) lead

unfoldable pub tidy_cycle : List ℕ → List ℕ → List ℕ
tidy_cycle lead cycle = take (cycle_length_lem cycle) (drop (lead_length_lem lead cycle) (lead ++ cycle))

-- whether two words agree at as many steps as both have places together
unfoldable pub same_word : List ℕ → List ℕ → List ℕ → List ℕ → Bool
same_word lead₁ cycle₁ lead₂ cycle₂ =
    every (places lead₁ cycle₁ + places lead₂ cycle₂) (λ i. eqb (letters lead₁ cycle₁ i) (letters lead₂ cycle₂ i))
