-- The members whose marks are not 0, and their new numbers.
use mathlib.Core.Path.{◌≡◌, refl, sym, ap, ◌∙◌}
use mathlib.Core.Logic.{by_cases}
use mathlib.Core.Bool.{true, false}
use mathlib.Core.List.{List, [], ◌∷◌, Memᴰ}
use Prim.Native.Nat.{ℕ, zero, suc, ◌+◌, ◌≤◌, ◌<◌}
use native.Mathlib.Omega.{arith}
use native.Mathlib.Decide.{dec_lt}
use lib.ListN.{length, get_or}
use borrow.Author.Tests.{ltb-true, lt-ltb, le-ltb}
use Rattle.sets.specs.Tests.{Set, one, count}
use Rattle.sets.specs.Lists.{Ascending}
use Rattle.sets.proofs.Ascending.{asc-at, asc-from}
use Rattle.sets.proofs.Lists.{place_of, mem-at}
use Rattle.sets.proofs.Tests.{count-le, count-lt, count-hit, count-max}
use Rattle.trim_spec.specs.Trimmed.{picked, is_live, new_number}

-- ---- an example

middle-out : picked (2 ∷ 0 ∷ 1 ∷ []) (5 ∷ 6 ∷ 7 ∷ []) ≡ (5 ∷ 7 ∷ [])
unfolding picked
middle-out = refl

-- ---- one member

count-front : (i : ℕ) (f : Set) → count (suc i) f ≡ one (f 0) + count i (λ j. f (suc j))
unfolding count
count-front zero f = omega arith
count-front (suc i) f = let ih = count-front i f in omega arith

pub live-yes : (ms : List ℕ) (i : ℕ) → 0 < get_or ms i 0 → is_live ms i ≡ true
unfolding is_live
live-yes ms i l = lt-ltb 0 (get_or ms i 0) l

pub live-no : (ms : List ℕ) (i : ℕ) → get_or ms i 0 ≡ 0 → is_live ms i ≡ false
unfolding is_live
live-no ms i e = le-ltb 0 (get_or ms i 0) (omega arith)

pub live-is : (ms : List ℕ) (i : ℕ) → is_live ms i ≡ true → 0 < get_or ms i 0
unfolding is_live
live-is ms i e = ltb-true 0 (get_or ms i 0) e

module _ (m : ℕ) (ms : List ℕ) (c : ℕ) (cs : List ℕ) where
  pub picked-in : 0 < m → picked (m ∷ ms) (c ∷ cs) ≡ c ∷ picked ms cs
  unfolding picked
  picked-in l = rw (lt-ltb 0 m l, picked)

  pub picked-not : m ≡ 0 → picked (m ∷ ms) (c ∷ cs) ≡ picked ms cs
  unfolding picked
  picked-not e = rw (le-ltb 0 m (omega arith), picked)

module _ (m : ℕ) (ms : List ℕ) (i : ℕ) where
  number_in : 0 < m → new_number (m ∷ ms) (suc i) ≡ suc (new_number ms i)
  unfolding new_number is_live
  number_in l = count-front i (is_live (m ∷ ms)) ∙ rw (lt-ltb 0 m l) (omega arith)

  number-not : m ≡ 0 → new_number (m ∷ ms) (suc i) ≡ new_number ms i
  unfolding new_number is_live
  number-not e = count-front i (is_live (m ∷ ms)) ∙ rw (le-ltb 0 m (omega arith)) (omega arith)

number-none : (ms : List ℕ) → new_number ms 0 ≡ 0
unfolding new_number count
number-none ms = refl

-- ---- all of them

pub picked-length : (ms cs : List ℕ) → length ms ≡ length cs → length (picked ms cs) ≡ new_number ms (length cs)
unfolding picked
picked-length [] [] e = sym (number-none [])
picked-length [] (c ∷ cs) e = absurd (omega arith)
picked-length (m ∷ ms) [] e = absurd (omega arith)
picked-length (m ∷ ms) (c ∷ cs) e =
    let ih = picked-length ms cs (omega arith) in
    by_cases (dec_lt 0 m) (λ l. rw (picked-in m ms c cs l) (ap suc ih ∙ sym (number_in m ms (length cs) l)))
    (λ l. rw (picked-not m ms c cs (omega arith)) (ih ∙ sym (number-not m ms (length cs) (omega arith))))

-- a member is found again at its new number
pub picked-at : (ms cs : List ℕ) (i : ℕ) → i < length cs → 0 < get_or ms i 0 → get_or (picked ms cs) (new_number ms i) 0 ≡ get_or cs i 0
picked-at [] cs i l h = absurd (omega arith)
picked-at (m ∷ ms) [] i l h = absurd (omega arith)
picked-at (m ∷ ms) (c ∷ cs) zero l h = rw (picked-in m ms c cs h, number-none (m ∷ ms)) refl
picked-at (m ∷ ms) (c ∷ cs) (suc i) l h =
    let ih = picked-at ms cs i (omega arith) h in
    by_cases (dec_lt 0 m) (λ k. rw (picked-in m ms c cs k, number_in m ms i k) ih)
    (λ k. rw (picked-not m ms c cs (omega arith), number-not m ms i (omega arith)) ih)

module _ (ms cs : List ℕ) (same : length ms ≡ length cs) where
  pub number-low : (i : ℕ) → i < length cs → 0 < get_or ms i 0 → new_number ms i < length (picked ms cs)
  unfolding new_number
  number-low i l h = rw (picked-length ms cs same) (count-lt i (length cs) (is_live ms) l (live-yes ms i h))

  -- each new number is that of one member
  pub picked-from : (j : ℕ) → j < length (picked ms cs) → (i : ℕ) × (i < length cs) × (0 < get_or ms i 0) × (new_number ms i ≡ j)
  unfolding new_number
  picked-from j l = let r = count-hit (length cs) (is_live ms) j (rw (picked-length ms cs same) at l) in (r.0, r.1, live-is ms r.0 r.2, r.3)

  pub picked-out : (c : ℕ) → Memᴰ c (picked ms cs) → (i : ℕ) × (i < length cs) × (0 < get_or ms i 0) × (get_or cs i 0 ≡ c)
  picked-out c m =
      let p = place_of (picked ms cs) c m in
      let r = picked-from p.0 p.1 in
      (r.0, r.1, r.2, sym (picked-at ms cs r.0 r.1 r.2) ∙ ap (λ (k : ℕ). get_or (picked ms cs) k 0) r.3 ∙ p.2)

  pub picked-mem : (i : ℕ) → i < length cs → 0 < get_or ms i 0 → Memᴰ (get_or cs i 0) (picked ms cs)
  picked-mem i l h = rw (picked-at ms cs i l h) at (mem-at (picked ms cs) (new_number ms i) (number-low i l h))

  -- new numbers keep the order
  number-order : (i j : ℕ) → new_number ms i < new_number ms j → i < j
  unfolding new_number
  number-order i j l = by_cases (dec_lt i j) (λ h. h) (λ h. absurd (omega (arith, count-le j i (is_live ms) (omega arith))))

  pub picked-asc : Ascending cs → Ascending (picked ms cs)
  picked-asc a =
      asc-from (picked ms cs)
      (λ i j l h. let p = picked-from i (omega arith) in let q = picked-from j h in
      let b : p.0 < q.0 = number-order p.0 q.0 (omega (arith, p.3, q.3, l)) in
      let e : get_or (picked ms cs) i 0 ≡ get_or cs p.0 0 = ap (λ (k : ℕ). get_or (picked ms cs) k 0) (sym p.3) ∙ picked-at ms cs p.0 p.1 p.2 in
      let f : get_or (picked ms cs) j 0 ≡ get_or cs q.0 0 = ap (λ (k : ℕ). get_or (picked ms cs) k 0) (sym q.3) ∙ picked-at ms cs q.0 q.1 q.2 in
      omega (arith, asc-at cs a p.0 q.0 b q.1))

pub number-max : (ms : List ℕ) (i : ℕ) → new_number ms i ≤ i
unfolding new_number
number-max ms i = count-max i (is_live ms)

pub number-less : (ms : List ℕ) (i j : ℕ) → i < j → 0 < get_or ms i 0 → new_number ms i < new_number ms j
unfolding new_number
number-less ms i j l h = count-lt i j (is_live ms) l (live-yes ms i h)

pub number_up : (ms : List ℕ) (i j : ℕ) → i ≤ j → new_number ms i ≤ new_number ms j
unfolding new_number
number_up ms i j l = count-le i j (is_live ms) l
