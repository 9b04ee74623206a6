-- Vectors by their ranks; every vector within the largest ranks is visited.
use mathlib.Core.Path.{◌≡◌, ap, sym, ◌∙◌}
use mathlib.Core.Logic.{◌⊎◌, inl, inr, ⊎_elim, by_cases}
use Prim.Native.Nat.{ℕ, zero, suc, ◌+◌, ◌*◌, ◌/◌, ◌%◌, ◌^◌, ◌≤◌, ◌<◌}
use native.Mathlib.Omega.{arith}
use native.Mathlib.Decide.{ℕ_discrete}
use native.Mathlib.Nat.{pow-suc, div-eq_of_lt, lt_of_lt_of_le}
use lib.Pow.{shr-shr, pow_mono}
use Rattle.sets.specs.Digits.{num}
use Rattle.sets.proofs.Digits.{digit-num, digits-eq, pow16}
use Rattle.build_cores.specs.Vectors.{rank_at, Within, next_of, visited}
use Rattle.build_cores.proofs.Next.{more, within-next, least}

pub rank-digit : (v q : ℕ) → rank_at v q ≡ v / 16 ^ q % 16
unfolding rank_at
rank-digit v q = ap (λ (x : ℕ). v / x % 16) (pow16 q)

-- the ranks of a vector made of digits
pub rank-num : (f : ℕ → ℕ) → ((q : ℕ) → q < 8 → f q < 16) → (q : ℕ) → q < 8 → rank_at (num 16 8 f) q ≡ f q
rank-num f h q l = rank-digit (num 16 8 f) q ∙ digit-num 16 (omega arith) 8 f h q l

-- a vector of eight ranks has no more
pub rank-high : (v q : ℕ) → v < 16 ^ 8 → 8 ≤ q → rank_at v q ≡ 0
unfolding rank_at
rank-high v q h l = ap (λ (x : ℕ). x % 16) (div-eq_of_lt (lt_of_lt_of_le h (pow_mono {i = 32} {j = 4 * q} (omega arith))))

-- vectors with the same ranks
pub ranks-eq : (v w : ℕ) → v < 2 ^ 32 → w < 2 ^ 32 → ((q : ℕ) → q < 8 → rank_at v q ≡ rank_at w q) → v ≡ w
ranks-eq v w hv hw h = digits-eq 16 (omega arith) 8 v w hv hw (λ q l. sym (rank-digit v q) ∙ h q l ∙ rank-digit w q)

rank-zero : (v : ℕ) → rank_at v 0 ≡ v % 16
unfolding rank_at
rank-zero v = let e : v / 2 ^ (4 * 0) ≡ v = omega arith in ap (λ (x : ℕ). x % 16) e

rank-suc : (v q : ℕ) → rank_at v (suc q) ≡ rank_at (v / 16) q
unfolding rank_at
rank-suc v q = let e : 4 * suc q ≡ 4 + 4 * q = omega arith in ap (λ (x : ℕ). v / 2 ^ x % 16) e ∙ ap (λ (x : ℕ). x % 16) (sym (shr-shr v 4 (4 * q)))

-- ---- within the largest ranks

pub within-rank : (m w c : ℕ) → Within m w c → (q : ℕ) → q < m → rank_at w q ≤ rank_at c q
unfolding Within
within-rank zero w c h q l = absurd (omega arith)
within-rank (suc m) w c h zero l = omega (arith, h.0, rank-zero w, rank-zero c)
within-rank (suc m) w c h (suc q) l = omega (arith, within-rank m (w / 16) (c / 16) h.1 q (omega arith), rank-suc w q, rank-suc c q)

pub within-lt : (m w c : ℕ) → Within m w c → w < 16 ^ m
unfolding Within
within-lt zero w c h = omega (arith, h.0)
within-lt (suc m) w c h = let ih = within-lt m (w / 16) (c / 16) h.1 in let p = pow-suc 16 m in omega arith

pub within-le : (m w c : ℕ) → Within m w c → w ≤ c
unfolding Within
within-le zero w c h = omega (arith, h.0)
within-le (suc m) w c h = omega (arith, h.0, within-le m (w / 16) (c / 16) h.1)

pub within_of : (m w c : ℕ) → w < 16 ^ m → c < 16 ^ m → ((q : ℕ) → q < m → rank_at w q ≤ rank_at c q) → Within m w c
unfolding Within
within_of zero w c hw hc h = (omega arith, omega arith)
within_of (suc m) w c hw hc h =
    let p = pow-suc 16 m in (
      omega (arith, h 0 (omega arith), rank-zero w, rank-zero c),
      within_of m (w / 16) (c / 16) (omega arith) (omega arith) (λ q l. omega (arith, h (suc q) (omega arith), rank-suc w q, rank-suc c q)),
    )

-- ---- none is left out

-- the first vector is within
pub within-zero : (c : ℕ) → c < 2 ^ 32 → Within 8 0 c
within-zero c h = within_of 8 0 c (omega arith) h (λ q l. omega (arith, zero_rank q))
  where
    zero_rank : (q : ℕ) → rank_at 0 q ≡ 0
    zero_rank zero = rank-zero 0
    zero_rank (suc q) = rank-suc 0 q ∙ zero_rank q

-- met, or still ahead
module _ (caps v : ℕ) (fits : caps < 2 ^ 32) (w : Within 8 v caps) where
  abbrev Met : ℕ → Type 0
  Met i = ((j : ℕ) × (visited caps j ≡ v)) ⊎ ((i ≤ visited caps i) × (visited caps i < v) × Within 8 (visited caps i) caps)

  meet : (i : ℕ) → Met i
  unfolding visited
  meet zero = by_cases (ℕ_discrete v 0) (λ e. inl (0, sym e)) (λ e. inr (omega arith, omega arith, within-zero caps fits))
  meet (suc i) = ⊎_elim (λ f. inl f)
      (λ a. let x = visited caps i in
      let other : x ≡ caps → ⊥ = λ e. omega (arith, a.1, within-le 8 v caps w) in
      let up = more 8 x caps a.2 other in
      let low = least 8 x caps v a.2 w a.1 in
      by_cases (ℕ_discrete (next_of 8 x caps) v)
      (λ e. inl (suc i, e))
      (λ e. inr (omega (arith, a.0), omega arith, within-next 8 x caps a.2 other)))
      (meet i)

  -- every vector within the largest ranks is visited
  pub all-visited : (i : ℕ) × (visited caps i ≡ v)
  all-visited = ⊎_elim (λ f. f) (λ a. absurd (omega (arith, a.0, a.1))) (meet v)
