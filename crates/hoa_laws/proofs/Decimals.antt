-- Decimal digits tell the number, and where they end.
use mathlib.Core.Path.{◌≡◌, refl, sym, ◌∙◌, ap}
use mathlib.Core.List.{List, [], ◌∷◌, ◌++◌, append_assoc, append-nil, nil≢cons}
use mathlib.Core.Logic.{by_cases}
use Prim.Native.Nat.{ℕ, zero, suc, ◌+◌, ◌-◌, ◌*◌, ◌/◌, ◌%◌, ◌≤◌, ◌<◌}
use native.Mathlib.Omega.{arith}
use native.Mathlib.Decide.{dec_lt}
use lib.Dec.{ltb}
use borrow.Author.Tests.{ltb-true, ltb-false}
use Rattle.sets.proofs.Bools.{bif}
use Rattle.slice_text.specs.Decimal.{digit, decimal, word}
use Rattle.slice_text.proofs.Decimal.{one-digit, more-digits}
use Rattle.hoa_laws.specs.Took.{Stops}

pub data Digits : List ℕ → Type 0 where
  none : Digits []
  next : {d : ℕ} {ds : List ℕ} → 48 ≤ d → d ≤ 57 → Digits ds → Digits (d ∷ ds)

digits_append : {xs ys : List ℕ} → Digits xs → Digits ys → Digits (xs ++ ys)
digits_append none q = q
digits_append (next l h p) q = next l h (digits_append p q)

-- the digits after the first ones
digits-after : (xs : List ℕ) {ys : List ℕ} → Digits (xs ++ ys) → Digits ys
digits-after [] p = p
digits-after (x ∷ xs) (next l h p) = digits-after xs p

digits-head : {d : ℕ} {ds : List ℕ} → Digits (d ∷ ds) → (48 ≤ d) × (d ≤ 57)
digits-head (next l h p) = (l, h)

digits-one : (x : ℕ) → x < 10 → Digits (digit x ∷ [])
digits-one x h = next {d = digit x} (omega arith) (omega arith) none

-- what holds of one digit, and of more digits if it holds of those before the last, holds of every number
by-digits-in : (P : ℕ → Type 0) → ((x : ℕ) → x < 10 → P x) → ((x : ℕ) → 10 ≤ x → P (x / 10) → P x) → (n x : ℕ) → x ≤ n → P x
by-digits-in P one more zero x h = one x (omega arith)
by-digits-in P one more (suc n) x h =
    bif (ltb x 10)
    (λ t. one x (ltb-true x 10 t))
    (λ t. let l = ltb-false x 10 t in more x l (by-digits-in P one more n (x / 10) (omega arith)))

by_digits : (P : ℕ → Type 0) → ((x : ℕ) → x < 10 → P x) → ((x : ℕ) → 10 ≤ x → P (x / 10) → P x) → (x : ℕ) → P x
by_digits P one more x = by-digits-in P one more x x (omega arith)

pub decimal-digits : (x : ℕ) → Digits (decimal x)
decimal-digits = by_digits (λ x. Digits (decimal x))
    (λ x l. rw (one-digit x l) (digits-one x l))
    (λ x l ih. rw (more-digits x l) (digits_append ih (digits-one (x % 10) (omega arith))))

-- the number that digits tell after those of a
unfoldable pub value : ℕ → List ℕ → ℕ
value a [] = a
value a (d ∷ ds) = value (10 * a + (d - 48)) ds

value-append : (a : ℕ) (xs ys : List ℕ) → value a (xs ++ ys) ≡ value (value a xs) ys
unfolding value
value-append a [] ys = refl
value-append a (x ∷ xs) ys = value-append (10 * a + (x - 48)) xs ys

value_grows : (a : ℕ) (ds : List ℕ) → a ≤ value a ds
unfolding value
value_grows a [] = omega arith
value_grows a (d ∷ ds) = omega (arith, value_grows (10 * a + (d - 48)) ds)

value-one : (a x : ℕ) → value a (digit x ∷ []) ≡ 10 * a + x
unfolding value
value-one a x = omega arith

pub decimal-value : (x : ℕ) → value 0 (decimal x) ≡ x
decimal-value = by_digits (λ x. value 0 (decimal x) ≡ x)
    (λ x l. rw (one-digit x l, value-one 0 x) (omega arith))
    (λ x l ih. rw (more-digits x l, value-append 0 (decimal (x / 10)) (digit (x % 10) ∷ []), ih, value-one (x / 10) (x % 10)) (omega arith))

-- digits that come first come first in any digits before a lower byte
pub span : {xs ys : List ℕ} (y : ℕ) (qs rs : List ℕ) → Digits xs → Digits ys → y < 48 → xs ++ qs ≡ ys ++ (y ∷ rs)
    → (zs : List ℕ) × (ys ≡ xs ++ zs) × (qs ≡ zs ++ (y ∷ rs))
span {ys = ys} y qs rs none q l e = (ys, refl, e)
span y qs rs (next {d = d} a b p) none l e = let z : d ≡ y = cc in absurd (omega arith)
span y qs rs (next {d = d} {ds = ds} a b p) (next {d = d'} {ds = ds'} a' b' q) l e =
    let t : ds ++ qs ≡ ds' ++ (y ∷ rs) = cc in
    let r = span y qs rs p q l t in
    let h : d ≡ d' = cc in
    let f = r.1 in
    (r.0, cc, r.2)

-- a number above 0 has no leading zero
lead : (x : ℕ) → 1 ≤ x → (d : ℕ) × (ds : List ℕ) × (49 ≤ d) × (decimal x ≡ d ∷ ds)
lead = by_digits (λ x. 1 ≤ x → (d : ℕ) × (ds : List ℕ) × (49 ≤ d) × (decimal x ≡ d ∷ ds))
    (λ x l h. (digit x, [], omega arith, one-digit x l))
    (λ x l ih h. let (d, ds, g, e) = ih (omega arith) in (d, ds ++ (digit (x % 10) ∷ []), g, more-digits x l ∙ ap (λ (s : List ℕ). s ++ (digit (x % 10) ∷ [])) e))

-- a number has a first digit
pub first-digit : (x : ℕ) → (d : ℕ) × (ds : List ℕ) × (48 ≤ d) × (d ≤ 57) × (decimal x ≡ d ∷ ds)
first-digit x = cased (decimal x) refl (decimal-digits x)
  where
    cased : (s : List ℕ) → decimal x ≡ s → Digits s → (d : ℕ) × (ds : List ℕ) × (48 ≤ d) × (d ≤ 57) × (decimal x ≡ d ∷ ds)
    cased [] e p =
        by_cases (dec_lt 0 x)
        (λ l. let k = lead x l in absurd (nil≢cons (sym e ∙ k.3)))
        (λ n. let g : x ≡ 0 = omega arith in absurd (nil≢cons (sym e ∙ ap decimal g ∙ one-digit 0 (omega arith))))
    cased (d ∷ ds) e p = let h = digits-head p in (d, ds, h.0, h.1, e)

-- more digits come next, or the byte that ends them
module _ (y : ℕ) (rs : List ℕ) (l : y < 48) where
  more : (c : ℕ) (qs zs : List ℕ) → 48 ≤ c → c ∷ qs ≡ zs ++ (y ∷ rs) → (us : List ℕ) × (zs ≡ c ∷ us)
  more c qs [] h e = let z : c ≡ y = cc in absurd (omega arith)
  more c qs (z ∷ zs) h e = let f : z ≡ c = cc in (zs, cc)

module _ {s : List ℕ} (x : ℕ) {rest : List ℕ} (S : Stops rest) (is : s ≡ decimal x ++ rest) (v : ℕ) {qs : List ℕ} (e : s ≡ decimal v ++ qs) where
  -- a number that was read so far is the beginning of any that stands there
  left : (zs : List ℕ) × (decimal x ≡ decimal v ++ zs) × (qs ≡ zs ++ (S.byte ∷ S.others))
  left = span S.byte qs S.others (decimal-digits v) (decimal-digits x) S.low (sym e ∙ is ∙ ap (λ (r : List ℕ). decimal x ++ r) S.is)

  -- a byte that is no less than a digit is one more digit
  module _ (c : ℕ) (us : List ℕ) (q : qs ≡ c ∷ us) (h : 48 ≤ c) where
    one_more : (zs : List ℕ) × (decimal x ≡ decimal v ++ (c ∷ zs))
    one_more =
        let m = more S.byte S.others S.low c us left.0 h (sym q ∙ left.2) in
        (m.0, left.1 ∙ ap (λ (zs : List ℕ). decimal v ++ zs) m.1)

    pub not-high : 57 < c → ⊥
    not-high g =
        let m = one_more in
        let d : Digits (decimal v ++ (c ∷ m.0)) = rw m.1 at (decimal-digits x) in
        let k = digits-head (digits-after (decimal v) d) in
        omega (arith, k.1)

    pub not-zero-led : v ≡ 0 → ⊥
    not-zero-led z =
        let m = one_more in
        let f : decimal x ≡ 48 ∷ (c ∷ m.0) = m.1 ∙ ap (λ (w : ℕ). decimal w ++ (c ∷ m.0)) z ∙ ap (λ (w : List ℕ). w ++ (c ∷ m.0)) (one-digit 0 (omega arith)) in
        by_cases (dec_lt 0 x)
        (λ p. let k = lead x p in let g : 48 ≡ k.0 = cc k.3 in omega (arith, k.2))
        (λ n. let g : x ≡ 0 = omega arith in
        let k : decimal x ≡ 48 ∷ [] = ap decimal g ∙ one-digit 0 (omega arith) in nil≢cons (let j : [] ≡ c ∷ m.0 = cc in j))

    pub not-larger : x < 10 * v + (c - 48) → ⊥
    unfolding value
    not-larger g =
        let m = one_more in
        let f : x ≡ value (10 * v + (c - 48)) m.0 =
        sym (decimal-value x) ∙ ap (value 0) m.1 ∙ value-append 0 (decimal v) (c ∷ m.0) ∙ ap (λ (a : ℕ). value (10 * a + (c - 48)) m.0) (decimal-value v) in
        omega (arith, value_grows (10 * v + (c - 48)) m.0)

-- one digit more
pub grown : {s : List ℕ} (v : ℕ) {qs : List ℕ} → s ≡ decimal v ++ qs → (c : ℕ) (us : List ℕ) → qs ≡ c ∷ us → 48 ≤ c → c ≤ 57 → 1 ≤ v
    → s ≡ decimal (10 * v + (c - 48)) ++ us
grown {s} v {qs} e c us q l h p =
    let w = 10 * v + (c - 48) in
    let a : w / 10 ≡ v = omega arith in
    let b : digit (w % 10) ≡ c = omega arith in
    let f : decimal w ≡ decimal v ++ (c ∷ []) = more-digits w (omega arith) ∙ ap (λ (k : ℕ). decimal k ++ (digit (w % 10) ∷ [])) a ∙ ap (λ (k : ℕ). decimal v ++ (k ∷ [])) b in
    e ∙ ap (λ (r : List ℕ). decimal v ++ r) q ∙ sym (ap (λ (r : List ℕ). r ++ us) f ∙ append_assoc (decimal v) (c ∷ []) us)

-- a number and what follows it
pub decimal-once : (x x' : ℕ) {rest rest' : List ℕ} → Stops rest → Stops rest' → decimal x ++ rest ≡ decimal x' ++ rest' → (x ≡ x') × (rest ≡ rest')
decimal-once x x' {rest} {rest'} S T e = cased (left x' T e x refl)
  where
    cased : (zs : List ℕ) × (decimal x' ≡ decimal x ++ zs) × (rest ≡ zs ++ (T.byte ∷ T.others)) → (x ≡ x') × (rest ≡ rest')
    cased ([], f, g) = (sym (decimal-value x) ∙ ap (value 0) (sym (append-nil (decimal x)) ∙ sym f) ∙ decimal-value x', g ∙ sym T.is)
    cased (z ∷ zs, f, g) =
        let d : Digits (decimal x ++ (z ∷ zs)) = rw f at (decimal-digits x') in
        let k = digits-head (digits-after (decimal x) d) in
        let i = S.is in
        let h : z ≡ S.byte = cc in absurd (omega (arith, k.0, S.low))

pub word-once : (x x' : ℕ) {rest rest' : List ℕ} → Stops rest → Stops rest' → word x ++ rest ≡ word x' ++ rest' → (x ≡ x') × (rest ≡ rest')
unfolding word
word-once x x' {rest} {rest'} S T e = let f : decimal x ++ rest ≡ decimal x' ++ rest' = cc in decimal-once x x' S T f
