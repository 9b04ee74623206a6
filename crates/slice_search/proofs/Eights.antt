-- Zeros, eight more.
use mathlib.Core.Path.{◌≡◌, sym, subst}
use mathlib.Core.Logic.{by_cases}
use mathlib.Core.List.{List}
use Prim.Native.Nat.{ℕ, zero, suc, ◌+◌, ◌-◌, ◌≤◌, ◌<◌}
use native.Mathlib.Omega.{arith}
use native.Mathlib.Decide.{dec_lt, ℕ_discrete}
use lib.ListN.{get_or}
use Rattle.sets.specs.Digits.{num}
use Rattle.sets.proofs.Digits.{num-low}
use Rattle.codes.specs.Bytes.{word_at}
use Rattle.slice_search.specs.Zeros.{Zeros}

-- digits of the number 0 are 0
digits-zero : (m : ℕ) (f : ℕ → ℕ) → num 256 m f ≡ 0 → (j : ℕ) → j < m → f j ≡ 0
digits-zero zero f e j l = absurd (omega arith)
digits-zero (suc m) f e zero l = let h = num-low 256 m f in omega arith
digits-zero (suc m) f e (suc j) l = let h = num-low 256 m f in digits-zero m (λ k. f (suc k)) (omega arith) j (omega arith)

module _ (xs : List ℕ) where
  pub zeros-word : (from i : ℕ) → Zeros xs from i → word_at xs i ≡ 0 → Zeros xs from (i + 8)
  unfolding word_at
  zeros-word from i z e = record {
    ordered = omega (arith, z.ordered);
    zeros = λ x l m. by_cases (dec_lt x i)
        (λ q. z.zeros x l q)
        (λ q.
        let s : i + (x - i) ≡ x = omega arith in
        rw s at (digits-zero 8 (λ j. get_or xs (i + j) 0) e (x - i) (omega arith)));
  }

-- ---- searches that pass over zeros, by a fact that holds where the element is 0

module _ (xs : List ℕ) (F : ℕ → Type 0) (zero-holds : (y : ℕ) → get_or xs y 0 ≡ 0 → F y) (from : ℕ) where
  pub over_zeros : (r : ℕ) → Zeros xs from r → (y : ℕ) → from ≤ y → y < r → F y
  over_zeros r z y a b = zero-holds y (z.zeros y a b)

  -- place x is looked at, and zeros come after it
  pub over-next : (x r : ℕ) → ((y : ℕ) → from ≤ y → y < x → F y) → F x → Zeros xs (x + 1) r → (y : ℕ) → from ≤ y → y < r → F y
  over-next x r h f z y a b =
      by_cases (dec_lt y x) (h y a)
      (λ n. by_cases (ℕ_discrete y x) (λ e. subst F (sym e) f) (λ e. zero-holds y (z.zeros y (omega arith) b)))
