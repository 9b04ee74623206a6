-- A part written over others: what stands before it, in it and behind it.
use mathlib.Core.Path.{◌≡◌, refl, sym, ◌∙◌, ap}
use mathlib.Core.Logic.{by_cases}
use mathlib.Core.Bool.{not}
use mathlib.Core.List.{List, [], ◌∷◌, ◌++◌}
use Prim.Native.Nat.{ℕ, suc, ◌+◌, ◌-◌, ◌≤◌, ◌<◌}
use native.Mathlib.Decide.{ℕ_discrete, dec_lt}
use native.Mathlib.Nat.{add-zero, zero-add}
use native.Mathlib.Numerals.{add-one}
use native.Mathlib.Omega.{arith}
use lib.Dec.{eqb, ltb}
use lib.ListN.{length, get_or, set, take, drop, length-append, length-drop, length-set, get_or-append}
use lib.Seq.{ext_get_or, length-take-le, get_or-append-add, get_or-take, get_or-drop, get_or-set_same, get_or-set_other, set_split, take_all, drop-drop}
use borrow.Author.Tests.{eq-eqb, ne_eqb, lt-ltb, le-ltb}
use Rattle.live_spec.specs.State.{number_at_lem}
use Rattle.live_spec.specs.Effects.{put}

module _ (at : ℕ) (part bytes : List ℕ) (fits : at + length part ≤ length bytes) where
  front : length (take at bytes) ≡ at
  front = length-take-le at bytes (omega arith)

  pub put-long : length (put at part bytes) ≡ length bytes
  unfolding put
  put-long = simp (length-append, length-drop, front) (omega arith)

  pub put-before : (j : ℕ) → j < at → get_or (put at part bytes) j 0 ≡ get_or bytes j 0
  unfolding put
  put-before j l = get_or-append (take at bytes) (part ++ drop (at + length part) bytes) 0 j (omega (arith, front)) ∙ get_or-take at bytes j 0 l

  behind-front : (j : ℕ) → get_or (put at part bytes) (at + j) 0 ≡ get_or (part ++ drop (at + length part) bytes) j 0
  unfolding put
  behind-front j =
      let e : at + j ≡ length (take at bytes) + j = omega (arith, front) in
      rw (e, get_or-append-add)

  pub put_in : (j : ℕ) → j < length part → get_or (put at part bytes) (at + j) 0 ≡ get_or part j 0
  put_in j l = behind-front j ∙ get_or-append part (drop (at + length part) bytes) 0 j l

  pub put-behind : (j : ℕ) → at + length part ≤ j → get_or (put at part bytes) j 0 ≡ get_or bytes j 0
  put-behind j l =
      let k = j - (at + length part) in
      let e : j ≡ at + (length part + k) = omega arith in
      let f : at + length part + k ≡ at + (length part + k) = omega arith in
      rw e (behind-front (length part + k) ∙ rw (get_or-append-add, get_or-drop, f))

  -- a list with the same bytes is this one
  pub put-ext : (xs : List ℕ) → length xs ≡ length bytes
      → ((j : ℕ) → j < at → get_or xs j 0 ≡ get_or bytes j 0)
      → ((j : ℕ) → j < length part → get_or xs (at + j) 0 ≡ get_or part j 0)
      → ((j : ℕ) → at + length part ≤ j → get_or xs j 0 ≡ get_or bytes j 0)
      → xs ≡ put at part bytes
  put-ext xs long before inside behind =
      ext_get_or 0 xs (put at part bytes) (long ∙ sym put-long)
      (λ j l. by_cases (dec_lt j at)
      (λ b. before j b ∙ sym (put-before j b))
      (λ n. by_cases (dec_lt j (at + length part))
      (λ i. let e : j ≡ at + (j - at) = omega arith in rw e (inside (j - at) (omega arith) ∙ sym (put_in (j - at) (omega arith))))
      (λ m. behind j (omega arith) ∙ sym (put-behind j (omega arith)))))

  -- what stands behind it
  pub drop-put : (k : ℕ) → at + length part ≤ k → drop k (put at part bytes) ≡ drop k bytes
  drop-put k l =
      ext_get_or 0 (drop k (put at part bytes)) (drop k bytes) (omega (arith, length-drop k (put at part bytes), length-drop k bytes, put-long))
      (λ j m. get_or-drop k (put at part bytes) j 0 ∙ put-behind (k + j) (omega arith) ∙ sym (get_or-drop k bytes j 0))

-- one byte
pub put-set : (at v : ℕ) (bytes : List ℕ) → at < length bytes → set bytes at v ≡ put at (v ∷ []) bytes
unfolding put
put-set at v bytes l = set_split bytes at v l ∙ ap (λ (k : ℕ). take at bytes ++ (v ∷ drop k bytes)) (sym (add-one at))

-- two bytes
pub put_two : (at v w : ℕ) (bytes : List ℕ) → at + 2 ≤ length bytes → set (set bytes at v) (at + 1) w ≡ put at (v ∷ (w ∷ [])) bytes
put_two at v w bytes l =
    let long = length-set bytes at v in
    put-ext at (v ∷ (w ∷ [])) bytes l (set (set bytes at v) (at + 1) w) (length-set (set bytes at v) (at + 1) w ∙ long)
    (λ j b. get_or-set_other (set bytes at v) (at + 1) j w 0 (λ e. omega arith) ∙ get_or-set_other bytes at j v 0 (λ e. omega arith))
    (λ j b. by_cases (ℕ_discrete j 0)
    (λ z. rw (z, add-zero at) (get_or-set_other (set bytes at v) (at + 1) at w 0 (λ e. omega arith) ∙ get_or-set_same bytes at v 0 (omega arith)))
    (λ n. let e : j ≡ 1 = omega arith in rw e (get_or-set_same (set bytes at v) (at + 1) w 0 (omega arith))))
    (λ j b. get_or-set_other (set bytes at v) (at + 1) j w 0 (λ e. omega arith) ∙ get_or-set_other bytes at j v 0 (λ e. omega arith))

-- ---- a flag

pub not-zero : (v : ℕ) → not (eqb v 0) ≡ ltb 0 v
not-zero v =
    by_cases (ℕ_discrete v 0)
    (λ z. ap not (eq-eqb v 0 z) ∙ sym (le-ltb 0 v (omega arith)))
    (λ n. ap not (ne_eqb v 0 n) ∙ sym (lt-ltb 0 v (omega arith)))

-- ---- parts of what a part was written over

pub ext-part : (a b k : ℕ) (xs ys : List ℕ) → a + k ≤ length xs → b + k ≤ length ys → ((j : ℕ) → j < k → get_or xs (a + j) 0 ≡ get_or ys (b + j) 0) → take k (drop a xs) ≡ take k (drop b ys)
ext-part a b k xs ys l m h =
    let p : length (take k (drop a xs)) ≡ k = length-take-le k (drop a xs) (omega (arith, length-drop a xs)) in
    let q : length (take k (drop b ys)) ≡ k = length-take-le k (drop b ys) (omega (arith, length-drop b ys)) in
    ext_get_or 0 (take k (drop a xs)) (take k (drop b ys)) (p ∙ sym q)
    (λ j i.
    let u : j < k = omega arith in
    get_or-take k (drop a xs) j 0 u ∙ get_or-drop a xs j 0 ∙ h j u ∙ sym (get_or-take k (drop b ys) j 0 u ∙ get_or-drop b ys j 0))

module _ (at : ℕ) (part bytes : List ℕ) (fits : at + length part ≤ length bytes) where
  -- one that ends before it
  pub part-before : (a k : ℕ) → a + k ≤ at → take k (drop a (put at part bytes)) ≡ take k (drop a bytes)
  part-before a k l =
      ext-part a a k (put at part bytes) bytes (omega (arith, put-long at part bytes fits)) (omega arith)
      (λ j m. put-before at part bytes fits (a + j) (omega arith))

  -- the part itself
  pub part-there : (k : ℕ) → length part ≡ k → take k (drop at (put at part bytes)) ≡ part
  part-there k e =
      ext-part at 0 k (put at part bytes) part (omega (arith, put-long at part bytes fits)) (omega arith)
      (λ j m. put_in at part bytes fits j (omega arith) ∙ ap (λ (i : ℕ). get_or part i 0) (sym (zero-add j)))
      ∙ take_all k part (omega arith)

  -- another of the same length over it
  pub put-over : (other : List ℕ) → length other ≡ length part → put at other (put at part bytes) ≡ put at other bytes
  put-over other e =
      let long = put-long at part bytes fits in
      let g : at + length other ≤ length (put at part bytes) = omega arith in
      put-ext at other bytes (omega arith) (put at other (put at part bytes)) (put-long at other (put at part bytes) g ∙ long)
      (λ j l. put-before at other (put at part bytes) g j l ∙ put-before at part bytes fits j l)
      (λ j l. put_in at other (put at part bytes) g j l)
      (λ j l. put-behind at other (put at part bytes) g j l ∙ put-behind at part bytes fits j (omega arith))

  -- a number that stands before it
  pub number-before : (a : ℕ) → a + 2 ≤ at → number_at_lem (put at part bytes) a ≡ number_at_lem bytes a
  unfolding number_at_lem
  number-before a l = rw (put-before at part bytes fits a (omega arith), put-before at part bytes fits (suc a) (omega arith))

-- the part that is there
pub put_back : (at k : ℕ) (bytes : List ℕ) → at + k ≤ length bytes → put at (take k (drop at bytes)) bytes ≡ bytes
put_back at k bytes l =
    let e : length (take k (drop at bytes)) ≡ k = length-take-le k (drop at bytes) (omega (arith, length-drop at bytes)) in
    sym
    (put-ext at (take k (drop at bytes)) bytes (omega arith) bytes refl (λ j m. refl)
    (λ j m. sym (get_or-take k (drop at bytes) j 0 (omega arith) ∙ get_or-drop at bytes j 0))
    (λ j m. refl))

-- as a slice gets a part back
pub put-mid : (at k : ℕ) (part bytes : List ℕ) → length part ≡ k → take at bytes ++ (part ++ drop k (drop at bytes)) ≡ put at part bytes
unfolding put
put-mid at k part bytes e = ap (λ (l : List ℕ). take at bytes ++ (part ++ l)) (drop-drop k at bytes ∙ ap (λ (i : ℕ). drop (at + i) bytes) (sym e))
