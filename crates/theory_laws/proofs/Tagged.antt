-- Codes and the numbers that they carry, one by one.
use mathlib.Core.Path.{◌≡◌, refl, sym, ap, ◌∙◌}
use mathlib.Core.Logic.{by_cases}
use mathlib.Core.List.{List, [], ◌∷◌}
use Prim.Native.Nat.{ℕ, zero, suc, ◌+◌, ◌*◌, ◌/◌, ◌%◌, ◌^◌, ◌≤◌, ◌<◌}
use native.Mathlib.Omega.{arith}
use native.Mathlib.Decide.{dec_lt}
use lib.ListN.{length, get_or, set, length-set}
use lib.Seq.{ext_get_or}
use borrow.Author.Tests.{lt-ltb, le-ltb}
use Rattle.graph_walks.proofs.Sums.{split-set}
use Rattle.trim_spec.specs.Trimmed.{flag_of_lem, flags, picked}
use Rattle.trim_spec.specs.Tagged.{highs, lows, compacted}
use Rattle.theory_laws.proofs.Numbers.{picked-in, picked-not}
use Rattle.theory_laws.proofs.Sweeping.{flags-length, flags-at}

pub highs-length : (xs : List ℕ) → length (highs xs) ≡ length xs
unfolding highs
highs-length [] = refl
highs-length (x ∷ xs) = ap suc (highs-length xs)

pub highs-long : (xs ys : List ℕ) → length (highs xs) ≡ length (highs ys) → length xs ≡ length ys
highs-long xs ys e = sym (highs-length xs) ∙ e ∙ highs-length ys

pub lows-length : (xs : List ℕ) → length (lows xs) ≡ length xs
unfolding lows
lows-length [] = refl
lows-length (x ∷ xs) = ap suc (lows-length xs)

pub highs-at : (xs : List ℕ) (i : ℕ) → get_or (highs xs) i 0 ≡ get_or xs i 0 / 2 ^ 48
unfolding highs
highs-at [] i = refl
highs-at (x ∷ xs) zero = refl
highs-at (x ∷ xs) (suc i) = highs-at xs i

pub lows-at : (xs : List ℕ) (i : ℕ) → get_or (lows xs) i 0 ≡ get_or xs i 0 % 2 ^ 48
unfolding lows
lows-at [] i = refl
lows-at (x ∷ xs) zero = refl
lows-at (x ∷ xs) (suc i) = lows-at xs i

pub highs-set : (xs : List ℕ) (i v : ℕ) → highs (set xs i v) ≡ set (highs xs) i (v / 2 ^ 48)
unfolding highs
highs-set [] i v = refl
highs-set (x ∷ xs) zero v = refl
highs-set (x ∷ xs) (suc i) v = ap (λ (l : List ℕ). x / 2 ^ 48 ∷ l) (highs-set xs i v)

pub lows-set : (xs : List ℕ) (i v : ℕ) → v % 2 ^ 48 ≡ get_or xs i 0 % 2 ^ 48 → lows (set xs i v) ≡ lows xs
unfolding lows
lows-set [] i v e = refl
lows-set (x ∷ xs) zero v e = ap (λ (k : ℕ). k ∷ lows xs) e
lows-set (x ∷ xs) (suc i) v e = ap (λ (l : List ℕ). x % 2 ^ 48 ∷ l) (lows-set xs i v e)

-- ---- a number changes

module _ (xs : List ℕ) (i v m : ℕ) (h : v / 2 ^ 48 ≡ m) (l : v % 2 ^ 48 ≡ get_or xs i 0 % 2 ^ 48) where
  pub carried : (highs (set xs i v) ≡ set (highs xs) i m) × (lows (set xs i v) ≡ lows xs)
  carried = (highs-set xs i v ∙ ap (set (highs xs) i) h, lows-set xs i v l)

-- 2 more
pub raised : (xs : List ℕ) (i : ℕ) → (highs (set xs i (get_or xs i 0 + 562949953421312)) ≡ set (highs xs) i (get_or (highs xs) i 0 + 2)) × (lows (set xs i (get_or xs i 0 + 562949953421312)) ≡ lows xs)
raised xs i = let e = highs-at xs i in carried xs i (get_or xs i 0 + 562949953421312) (get_or (highs xs) i 0 + 2) (omega arith) (omega arith)

-- ---- both parts make the whole

pub parts_same : (xs ys : List ℕ) → highs xs ≡ highs ys → lows xs ≡ lows ys → xs ≡ ys
parts_same xs ys e f =
    ext_get_or 0 xs ys (highs-long xs ys (ap length e))
    (λ i l. let a : get_or xs i 0 / 2 ^ 48 ≡ get_or ys i 0 / 2 ^ 48 = sym (highs-at xs i) ∙ ap (λ (k : List ℕ). get_or k i 0) e ∙ highs-at ys i in
    let b : get_or xs i 0 % 2 ^ 48 ≡ get_or ys i 0 % 2 ^ 48 = sym (lows-at xs i) ∙ ap (λ (k : List ℕ). get_or k i 0) f ∙ lows-at ys i in
    omega arith)

-- ---- flags, from the first code on

pub record FlaggedTo (old : List ℕ) (i : ℕ) (xs : List ℕ) : Type 0 where
  pub long : length xs ≡ length old
  pub done : (j : ℕ) → j < i → get_or xs j 0 ≡ get_or old j 0 + flag_of_lem (get_or old j 0) * 2 ^ 48
  pub rest : (j : ℕ) → i ≤ j → get_or xs j 0 ≡ get_or old j 0

module _ (old : List ℕ) (small : (j : ℕ) → get_or old j 0 < 2 ^ 48) where
  pub none-flagged : FlaggedTo old 0 old
  none-flagged = record { long = refl; done = λ j l. absurd (omega arith); rest = λ j l. refl }

  pub flag-next : (i : ℕ) (xs : List ℕ) → i < length xs → FlaggedTo old i xs → FlaggedTo old (i + 1) (set xs i (get_or xs i 0 + flag_of_lem (get_or xs i 0) * 2 ^ 48))
  flag-next i xs l f =
      let e : get_or xs i 0 ≡ get_or old i 0 = f.rest i (omega arith) in
      let v = get_or xs i 0 + flag_of_lem (get_or xs i 0) * 2 ^ 48 in record {
        long = length-set xs i v ∙ f.long;
        done = split-set (λ j k. j < i + 1 → k ≡ get_or old j 0 + flag_of_lem (get_or old j 0) * 2 ^ 48) xs i v l
            (λ h. ap (λ (k : ℕ). k + flag_of_lem k * 2 ^ 48) e) (λ j n h. f.done j (omega arith));
        rest = split-set (λ j k. i + 1 ≤ j → k ≡ get_or old j 0) xs i v l (λ h. absurd (omega arith)) (λ j n h. f.rest j (omega arith));
      }

  pub all-flagged : (i : ℕ) (xs : List ℕ) → length old ≤ i → FlaggedTo old i xs → (highs xs ≡ flags old) × (lows xs ≡ old)
  all-flagged i xs l f = (
    ext_get_or 0 (highs xs) (flags old) (highs-length xs ∙ f.long ∙ sym (flags-length old))
        (λ j h. let n = highs-length xs in let k : j < length old = omega (arith, f.long) in
        let e = f.done j (omega arith) in let s = small j in
        highs-at xs j ∙ omega arith ∙ sym (flags-at old j k)),
    ext_get_or 0 (lows xs) old (lows-length xs ∙ f.long)
        (λ j h. let n = lows-length xs in let e = f.done j (omega (arith, f.long)) in let s = small j in lows-at xs j ∙ omega arith),
  )

-- ---- the codes that carry a number

module _ (x : ℕ) (xs : List ℕ) where
  pub compacted-in : 0 < x / 2 ^ 48 → compacted (x ∷ xs) ≡ x % 2 ^ 48 ∷ compacted xs
  unfolding compacted
  compacted-in l = rw (lt-ltb 0 (x / 2 ^ 48) l, compacted)

  pub compacted-not : x / 2 ^ 48 ≡ 0 → compacted (x ∷ xs) ≡ compacted xs
  unfolding compacted
  compacted-not e = rw (le-ltb 0 (x / 2 ^ 48) (omega arith), compacted)

pub compacted-is : (xs : List ℕ) → compacted xs ≡ picked (highs xs) (lows xs)
unfolding compacted picked highs lows
compacted-is [] = refl
compacted-is (x ∷ xs) =
    let ih = compacted-is xs in
    by_cases (dec_lt 0 (x / 2 ^ 48))
    (λ l. compacted-in x xs l ∙ ap (λ (k : List ℕ). x % 2 ^ 48 ∷ k) ih ∙ sym (picked-in (x / 2 ^ 48) (highs xs) (x % 2 ^ 48) (lows xs) l))
    (λ l. let e : x / 2 ^ 48 ≡ 0 = omega arith in compacted-not x xs e ∙ ih ∙ sym (picked-not (x / 2 ^ 48) (highs xs) (x % 2 ^ 48) (lows xs) e))
