-- Lists that grow at their end: ascending ones, stored ones, flags.
use mathlib.Core.Path.{◌≡◌, refl, sym, ◌∙◌, ap}
use mathlib.Core.Bool.{cond}
use mathlib.Core.List.Memᴰ
use mathlib.Core.List.{List, [], ◌∷◌, ◌++◌, Memᴰ}
use mathlib.Core.Logic.{⊎_elim}
use Prim.Native.Nat.{ℕ, suc, ◌+◌, ◌<◌}
use native.Mathlib.Omega.{arith}
use native.Mathlib.Nat.{add-zero}
use lib.Dec.{ltb}
use lib.ListN.{length, get_or, set, length-append, get_or-append, get_or-eq_default}
use lib.Seq.{sets, get_or-append_seam}
use Rattle.sets.specs.Tests.{Set}
use Rattle.sets.specs.Lists.{keep, Above, end, more, Ascending, none, from}
use Rattle.sets.proofs.Bools.{bif}
use Rattle.sets.proofs.Ascending.{above_in, above-asc}
use Rattle.hoa_laws.proofs.Leaving.{keep-yes, keep-no}
use Rattle.hoa_spec.specs.Shape.{flags_from}

-- ---- ascending lists

above-append : {x : ℕ} {xs ys : List ℕ} → Above x xs → Ascending ys → ((u : ℕ) → Memᴰ u (x ∷ xs) → (y : ℕ) → Memᴰ y ys → u < y) → Above x (xs ++ ys)
above-append end none h = end
above-append {x} end (from {x = y} A) h = more (h x (Memᴰ.head refl) y (Memᴰ.head refl)) A
above-append (more l A) B h = more l (above-append A B (λ u m. h u (Memᴰ.tail m)))

pub asc-append : {xs ys : List ℕ} → Ascending xs → Ascending ys → ((u : ℕ) → Memᴰ u xs → (y : ℕ) → Memᴰ y ys → u < y) → Ascending (xs ++ ys)
asc-append none B h = B
asc-append (from A) B h = from (above-append A B h)

pub in-middle : (xs : List ℕ) (t : ℕ) (ys : List ℕ) → Memᴰ t (xs ++ (t ∷ ys))
in-middle [] t ys = Memᴰ.head refl
in-middle (x ∷ xs) t ys = Memᴰ.tail (in-middle xs t ys)

pub in_list : (us xs : List ℕ) (t : ℕ) (ys : List ℕ) → us ≡ xs ++ (t ∷ ys) → Memᴰ t us
in_list us xs t ys e = rw e (in-middle xs t ys)

-- what comes before a member is less
pub asc-before : (xs : List ℕ) (t : ℕ) (ys : List ℕ) → Ascending (xs ++ (t ∷ ys)) → (u : ℕ) → Memᴰ u xs → u < t
asc-before [] t ys A u m = absurd (Memᴰ.not-nil m)
asc-before (x ∷ xs) t ys (from A) u m =
    ⊎_elim (λ e. let l = above_in x (xs ++ (t ∷ ys)) A t (in-middle xs t ys) in omega (arith, e)) (λ k. asc-before xs t ys (above-asc A) u k) (Memᴰ.cases_cons m)

above_lower : {x y : ℕ} {ys : List ℕ} → x < y → Above y ys → Above x ys
above_lower l end = end
above_lower {x} {y} l (more {y = z} k A) = let h : x < z = omega arith in more h A

above-keep : (f : Set) {x : ℕ} (xs : List ℕ) → Above x xs → Above x (keep f xs)
unfolding keep
above-keep f [] end = end
above-keep f (y ∷ ys) (more l A) =
    bif (f y)
    (λ t. rw (keep-yes f y ys t) (more l (above-keep f ys A)))
    (λ t. rw (keep-no f y ys t) (above_lower l (above-keep f ys A)))

pub keep-asc : (f : Set) (xs : List ℕ) → Ascending xs → Ascending (keep f xs)
unfolding keep
keep-asc f [] none = none
keep-asc f (x ∷ xs) (from A) =
    bif (f x)
    (λ t. rw (keep-yes f x xs t) (from (above-keep f xs A)))
    (λ t. rw (keep-no f x xs t) (above-asc (above-keep f xs A)))

-- ---- one element more

module _ (xs : List ℕ) (x : ℕ) where
  pub snoc-length : length (xs ++ (x ∷ [])) ≡ length xs + 1
  snoc-length = length-append xs (x ∷ [])

  pub snoc-before : (j : ℕ) → j < length xs → get_or (xs ++ (x ∷ [])) j 0 ≡ get_or xs j 0
  snoc-before j h = get_or-append xs (x ∷ []) 0 j h

  pub snoc-last : (j : ℕ) → j ≡ length xs → get_or (xs ++ (x ∷ [])) j 0 ≡ x
  snoc-last j e = ap (λ (k : ℕ). get_or (xs ++ (x ∷ [])) k 0) e ∙ get_or-append_seam xs x [] 0

  pub snoc-after : (j : ℕ) → length xs < j → get_or (xs ++ (x ∷ [])) j 0 ≡ 0
  snoc-after j h = get_or-eq_default (xs ++ (x ∷ [])) 0 {n = j} (omega (arith, snoc-length))

-- ---- stored lists

pub sets-append : (old : List ℕ) (i : ℕ) (xs ys : List ℕ) → sets old i (xs ++ ys) ≡ sets (sets old i xs) (i + length xs) ys
sets-append old i [] ys = ap (λ (k : ℕ). sets old k ys) (sym (add-zero i))
sets-append old i (x ∷ xs) ys =
    let e : suc i + length xs ≡ i + suc (length xs) = omega arith in
    sets-append (set old i x) (suc i) xs ys ∙ ap (λ (k : ℕ). sets (sets (set old i x) (suc i) xs) k ys) e

-- ---- flags

flags-more : (accepting i : ℕ) (starts : List ℕ) (s : ℕ) → flags_from accepting i (starts ++ (s ∷ [])) ≡ flags_from accepting i starts ++ (cond (ltb (i + length starts) accepting) (2 + s) 0 ∷ [])
unfolding flags_from
flags-more accepting i [] s = ap (λ (k : ℕ). cond (ltb k accepting) (2 + s) 0 ∷ []) (sym (add-zero i))
flags-more accepting i (t ∷ starts) s =
    let e : suc i + length starts ≡ i + suc (length starts) = omega arith in
    ap (λ (fs : List ℕ). cond (ltb i accepting) (2 + t) 0 ∷ fs)
    (flags-more accepting (suc i) starts s ∙ ap (λ (k : ℕ). flags_from accepting (suc i) starts ++ (cond (ltb k accepting) (2 + s) 0 ∷ [])) e)

pub flags-snoc : (accepting : ℕ) (starts : List ℕ) (s i : ℕ) → length starts ≡ i → flags_from accepting 0 (starts ++ (s ∷ [])) ≡ flags_from accepting 0 starts ++ (cond (ltb i accepting) (2 + s) 0 ∷ [])
flags-snoc accepting starts s i h =
    let e : 0 + length starts ≡ i = omega arith in
    flags-more accepting 0 starts s ∙ ap (λ (k : ℕ). flags_from accepting 0 starts ++ (cond (ltb k accepting) (2 + s) 0 ∷ [])) e
