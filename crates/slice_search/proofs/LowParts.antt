-- Numbers by their low bits.
use mathlib.Core.Path.{◌≡◌, refl, sym, ◌∙◌, ap}
use mathlib.Core.List.{List, [], ◌∷◌}
use Prim.Native.Nat.{ℕ, zero, suc, ◌+◌, ◌-◌, ◌%◌, ◌^◌, ◌≤◌, ◌<◌}
use native.Mathlib.Omega.{arith}
use native.Mathlib.Nat.{mod-eq_of_lt}
use lib.Bits.{bit_and, and_mask}
use lib.ListN.{length, get_or, take}
use lib.Seq.{ext_get_or, get_or-take, length-take-le}
use Rattle.slice_search.specs.LowParts.{low_parts, LowBits}

pub low-long : (m : ℕ) (xs : List ℕ) → length (low_parts m xs) ≡ length xs
unfolding low_parts
low-long m [] = refl
low-long m (x ∷ xs) = ap suc (low-long m xs)

module _ (m : ℕ) (some : 0 < m) where
  pub low-at : (xs : List ℕ) (i : ℕ) → get_or (low_parts m xs) i 0 ≡ get_or xs i 0 % m
  unfolding low_parts
  low-at [] i = sym (mod-eq_of_lt some)
  low-at (x ∷ xs) zero = refl
  low-at (x ∷ xs) (suc i) = low-at xs i

  -- where nothing stands above m, the numbers are themselves
  pub low_same : (xs : List ℕ) → ((i : ℕ) → i < length xs → get_or xs i 0 < m) → low_parts m xs ≡ xs
  low_same xs h = ext_get_or 0 (low_parts m xs) xs (low-long m xs) (λ i l. low-at xs i ∙ mod-eq_of_lt (h i (omega (arith, low-long m xs))))

  pub low-same-front : (n : ℕ) (xs : List ℕ) → n ≤ length xs → ((i : ℕ) → get_or xs i 0 < m) → low_parts m (take n xs) ≡ take n xs
  low-same-front n xs f h = low_same (take n xs) (λ i l. rw (get_or-take n xs i 0 (omega (arith, length-take-le n xs f))) (h i))

-- what a mask leaves of an element
pub low_read : (mask : ℕ) → LowBits mask → (xs : List ℕ) (i : ℕ) → bit_and (get_or xs i 0) mask ≡ get_or (low_parts (mask + 1) xs) i 0
low_read mask (k, e) xs i =
    let m : mask ≡ 2 ^ k - 1 = omega arith in
    ap (bit_and (get_or xs i 0)) m ∙ and_mask (get_or xs i 0) k ∙ ap (λ (y : ℕ). get_or xs i 0 % y) (sym e) ∙ sym (low-at (mask + 1) (omega arith) xs i)
