-- The tests of names, by the comparisons that led there.
use Prim.Native.Nat.{ℕ, ◌+◌, ◌-◌, ◌*◌, ◌<◌, ◌≤◌}
use mathlib.Core.Path.{◌≡◌, ap, sym, ◌∙◌}
use mathlib.Core.Bool.{true, false, ◌||◌, not}
use mathlib.Core.Logic.{by_cases}
use native.Mathlib.Decide.{dec_lt}
use native.Mathlib.Omega.{arith}
use mathlib.Core.List.{List}
use borrow.Author.Tests.{lt-ltb, le-ltb, lt-leb, le-leb, eq-eqb, ne_eqb, eqb-true}
use lib.Dec.{eqb, leb, ltb}
use lib.ListN.{length, get_or, take, drop}
use lib.Pointwise.{pointwise, bytes_decides}
use Rattle.std.proofs.lemmas.List.{ext_get_or, get_or-take, get_or-drop, length-take-le, length-drop}
use Rattle.sets.specs.Tests.{every}
use Rattle.sets.proofs.Bools.{iff}
use Rattle.sets.proofs.Tests.{every-at, every-all, every-ext}
use Rattle.file_spec.specs.Names.{has_names_lem}
use Rattle.file_spec.proofs.Names.{cut_off_lem}

module _ (p : List ℕ) where
  pub few_bytes : length p < 2 → false ≡ has_names_lem p
  few_bytes l = unfold has_names_lem in rw (lt-leb 2 (length p) l)

  module _ (l : 2 ≤ length p) where
    pub first-differs : (get_or p (length p - 2) 0 ≡ 0x4E → ⊥) → false ≡ has_names_lem p
    first-differs n = unfold has_names_lem in rw (le-leb 2 (length p) l, ne_eqb (get_or p (length p - 2) 0) 0x4E n)

    pub last-decides : get_or p (length p - 2) 0 ≡ 0x4E → eqb (get_or p (length p - 1) 0) 0x4D ≡ has_names_lem p
    last-decides e = unfold has_names_lem in rw (le-leb 2 (length p) l, eq-eqb (get_or p (length p - 2) 0) 0x4E e)

-- ---- names

-- two lists of n bytes, compared
pairs : (n : ℕ) (xs ys : List ℕ) → length xs ≡ n → length ys ≡ n → pointwise eqb xs ys ≡ every n (λ k. eqb (get_or xs k 0) (get_or ys k 0))
pairs n xs ys e f =
    iff (pointwise eqb xs ys) (every n (λ k. eqb (get_or xs k 0) (get_or ys k 0)))
    (λ t. every-all n _ (λ k l. eq-eqb _ _ (ap (λ (zs : List ℕ). get_or zs k 0) ((bytes_decides xs ys).0 t))))
    (λ t. (bytes_decides xs ys).1 (ext_get_or 0 xs ys (e ∙ sym f) (λ k l. eqb-true _ _ (every-at n (λ k. eqb (get_or xs k 0) (get_or ys k 0)) t k (omega arith)))))

-- the eight bytes from i and from j on, compared
pub same-parts : (xs : List ℕ) (i j m n : ℕ) → m ≡ 8 → n ≡ 8 → i + 8 ≤ length xs → j + 8 ≤ length xs
    → pointwise eqb (take m (drop i xs)) (take n (drop j xs)) ≡ every 8 (λ k. eqb (get_or xs (i + k) 0) (get_or xs (j + k) 0))
same-parts xs i j m n e f h l =
    rw (e, f) (pairs 8 (take 8 (drop i xs)) (take 8 (drop j xs)) (length-take-le 8 (drop i xs) (omega (arith, length-drop i xs))) (length-take-le 8 (drop j xs) (omega (arith, length-drop j xs)))
    ∙ every-ext 8 _ _ (λ k q. rw (get_or-take 8 (drop i xs) k 0 q, get_or-take 8 (drop j xs) k 0 q, get_or-drop i xs k 0, get_or-drop j xs k 0)))

-- ---- lengths

pub none-whole : (m k : ℕ) → m ≡ 0 → true ≡ (eqb m 0 || eqb m k)
none-whole m k e = rw (eq-eqb m 0 e)

pub some-whole : (m k : ℕ) → (m ≡ 0 → ⊥) → eqb m k ≡ (eqb m 0 || eqb m k)
some-whole m k n = rw (ne_eqb m 0 n)

-- the room for names, where the preface ends with 4E 4D
pub fit-decides : (p : List ℕ) (s : ℕ) → has_names_lem p ≡ true → leb (8 * s) (length p - 2) ≡ not (cut_off_lem s p)
fit-decides p s h = rw h (leb-not-ltb (8 * s) (length p - 2))
  where
    leb-not-ltb : (a b : ℕ) → leb a b ≡ not (ltb b a)
    leb-not-ltb a b = by_cases (dec_lt b a) (λ l. rw (lt-leb a b l, lt-ltb b a l)) (λ l. rw (le-leb a b (omega arith), le-ltb b a (omega arith)))
