-- The next vector: it is one of them, above, and the least such.
use mathlib.Core.Path.{◌≡◌, sym, ◌∙◌}
use mathlib.Core.Logic.{by_cases}
use Prim.Native.Nat.{ℕ, zero, suc, ◌+◌, ◌*◌, ◌/◌, ◌%◌, ◌^◌, ◌≤◌, ◌<◌}
use native.Mathlib.Omega.{arith}
use native.Mathlib.Decide.{ℕ_discrete}
use native.Mathlib.Nat.{mul-le-mul_right}
use lib.Pow.{pow-add}
use borrow.Author.Tests.{eq-eqb, ne_eqb}
use Rattle.build_cores.specs.Vectors.{Within, next_of}

pub next-carry : (m w c : ℕ) → w % 16 ≡ c % 16 → next_of (suc m) w c ≡ next_of m (w / 16) (c / 16) * 16
unfolding next_of
next-carry m w c e = rw (eq-eqb (w % 16) (c % 16) e)

pub next_one : (m w c : ℕ) → (w % 16 ≡ c % 16 → ⊥) → next_of (suc m) w c ≡ w + 1
unfolding next_of
next_one m w c e = rw (ne_eqb (w % 16) (c % 16) e)

pub more : (m w c : ℕ) → Within m w c → (w ≡ c → ⊥) → w < next_of m w c
unfolding Within
more zero w c h n = absurd (n (omega arith))
more (suc m) w c h n = by_cases (ℕ_discrete (w % 16) (c % 16))
    (λ e. rw (next-carry m w c e) (omega (arith, more m (w / 16) (c / 16) h.1 (λ u. n (omega arith)))))
    (λ e. rw (next_one m w c e) (omega arith))

pub within-next : (m w c : ℕ) → Within m w c → (w ≡ c → ⊥) → Within m (next_of m w c) c
unfolding Within
within-next zero w c h n = absurd (n (omega arith))
within-next (suc m) w c h n = by_cases (ℕ_discrete (w % 16) (c % 16))
    (λ e. let i = within-next m (w / 16) (c / 16) h.1 (λ u. n (omega arith)) in
    let q : next_of m (w / 16) (c / 16) * 16 / 16 ≡ next_of m (w / 16) (c / 16) = omega arith in
    rw (next-carry m w c e) (omega arith, rw q i))
    (λ e. let q : (w + 1) / 16 ≡ w / 16 = omega (arith, h.0) in rw (next_one m w c e) (omega (arith, h.0), rw q h.1))

pub least : (m w c v : ℕ) → Within m w c → Within m v c → w < v → next_of m w c ≤ v
unfolding Within
least zero w c v h k l = absurd (omega arith)
least (suc m) w c v h k l = by_cases (ℕ_discrete (w % 16) (c % 16))
    (λ e. rw (next-carry m w c e) (omega (arith, least m (w / 16) (c / 16) (v / 16) h.1 k.1 (omega (arith, k.0)))))
    (λ e. rw (next_one m w c e) (omega arith))

-- the loop: w and c without their last digits, four bits each, which were equal
pub record State (ranks caps w c shift m : ℕ) : Type 0 where
  pub left : shift + 4 * m ≡ 32
  pub within : Within m w c
  pub other : w ≡ c → ⊥
  pub same : next_of 8 ranks caps ≡ next_of m w c * 2 ^ shift
  pub low : w * 2 ^ shift ≤ ranks
  pub high : c * 2 ^ shift ≤ caps

pub end : (ranks caps w c shift m : ℕ) → State ranks caps w c shift m → (w % 16 ≡ c % 16 → ⊥) → next_of 8 ranks caps ≡ (w + 1) * 2 ^ shift
unfolding Within
end ranks caps w c shift zero s n = absurd (s.other (omega (arith, s.within)))
end ranks caps w c shift (suc m) s n = s.same ∙ rw (next_one m w c n)

zeros : (m w : ℕ) → Within m w 0 → w ≡ 0
unfolding Within
zeros zero w h = h.0
zeros (suc m) w h = omega (arith, h.0, zeros m (w / 16) h.1)

pub some_left : (ranks caps w c shift m : ℕ) → State ranks caps w c shift m → 0 < c
some_left ranks caps w c shift m s = by_cases (ℕ_discrete c 0) (λ z. absurd (s.other (zeros m w (rw z at s.within) ∙ sym z))) (λ z. omega arith)

pub carry : (ranks caps w c shift m : ℕ) → State ranks caps w c shift m → w % 16 ≡ c % 16 → (k : ℕ) × State ranks caps (w / 16) (c / 16) (shift + 4) k
unfolding Within
carry ranks caps w c shift zero s e = absurd (s.other (omega (arith, s.within)))
carry ranks caps w c shift (suc m) s e =
    let p : 2 ^ (shift + 4) ≡ 2 ^ shift * 16 = pow-add 2 shift 4 in (
      m,
      record {
        left = omega (arith, s.left);
        within = s.within.1;
        other = λ u. s.other (omega arith);
        same = s.same ∙ rw (next-carry m w c e, p) (omega arith);
        low = let h : w / 16 * 16 * 2 ^ shift ≤ w * 2 ^ shift = mul-le-mul_right (2 ^ shift) (omega arith) in rw p (omega (arith, s.low));
        high = let h : c / 16 * 16 * 2 ^ shift ≤ c * 2 ^ shift = mul-le-mul_right (2 ^ shift) (omega arith) in rw p (omega (arith, s.high));
      },
    )

-- the next vector is a number of 64 bits
pub next_fits : (ranks caps w c shift m : ℕ) → State ranks caps w c shift m → ranks < 2 ^ 32 → caps < 2 ^ 32 → (w + 1) * 2 ^ shift < 2 ^ 64
next_fits ranks caps w c shift m s r k =
    let h : 1 * 2 ^ shift ≤ c * 2 ^ shift = mul-le-mul_right (2 ^ shift) (some_left ranks caps w c shift m s) in omega (arith, s.low, s.high)
