-- Sets below M that grow, each from the one before, stop growing within M rounds.
use mathlib.Core.Path.{◌≡◌}
use mathlib.Core.Logic.{◌⊎◌, inl, inr, ⊎_elim, by_cases}
use mathlib.Core.Bool.{true}
use Prim.Native.Nat.{ℕ, zero, suc, ◌≤◌, ◌<◌}
use native.Mathlib.Omega.{arith}
use native.Mathlib.Decide.{dec_le}
use Rattle.sets.specs.Tests.{Set, count}
use Rattle.sets.proofs.Tests.{count-max, count_same}

module _ (M : ℕ) (f : ℕ → Set) (up : (d x : ℕ) → x < M → f d x ≡ true → f (suc d) x ≡ true)
    (det : (d : ℕ) → ((x : ℕ) → x < M → f d x ≡ f (suc d) x) → (x : ℕ) → x < M → f (suc d) x ≡ f (suc (suc d)) x) where
  -- at rest at d, or at least d members
  rest : (d : ℕ) → ((x : ℕ) → x < M → f d x ≡ f (suc d) x) ⊎ (d ≤ count M (f d))
  rest zero = inr (omega arith)
  rest (suc d) =
      ⊎_elim (λ s. inl (det d s))
      (λ k. by_cases (dec_le (count M (f (suc d))) (count M (f d)))
      (λ le. inl (det d (count_same M (f d) (f (suc d)) (up d) le)))
      (λ le. inr (omega arith)))
      (rest d)

  pub still : (x : ℕ) → x < M → f M x ≡ f (suc M) x
  still x l = ⊎_elim (λ s. s x l) (λ k. let m = count-max M (f (suc M)) in count_same M (f M) (f (suc M)) (up M) (omega arith) x l) (rest M)
