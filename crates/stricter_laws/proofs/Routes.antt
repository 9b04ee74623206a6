-- Ways back, written letter by letter; ways of pairs as ways of both tables.
use mathlib.Core.Path.{◌≡◌, refl, sym, ap, subst, ◌∙◌}
use mathlib.Core.Logic.{inl, inr}
use mathlib.Core.List.{List, [], ◌∷◌, ◌++◌, append_assoc}
use Prim.Native.Nat.{ℕ, zero, suc, ◌+◌, ◌-◌, ◌/◌, ◌%◌, ◌≤◌, ◌<◌}
use native.Mathlib.Omega.{arith}
use lib.Arith.{digits_div, digits_mod}
use lib.ListN.{length, get_or, set, take, drop, take-append-drop}
use lib.Seq.{drop-append-add, drop-drop, take_at}
use Rattle.theory.specs.Run.{source_of, target_of}
use Rattle.stricter_spec.specs.Ways.{Way}
use Rattle.stricter_laws.specs.Pairs.{PairStep, Paired}
use Rattle.stricter_laws.specs.Forest.{Back, Trail, ParentIs}
use Rattle.stricter_laws.specs.Routes.{Route, RouteAt}

-- ---- the step to a node

module _ {S : ℕ → ℕ → ℕ → Type 0} {kind : ℕ → ℕ} (lettered : (x a y : ℕ) → S x a y → a < 16) (low : (x : ℕ) → kind x ≤ 3) (o : ℕ) (ms : List ℕ) where
  pub back_some : {x d : ℕ} → Back S kind o ms x d → 0 < d
  back_some (Back.seed a s e f) = omega arith
  back_some (Back.child x a k b s e f) = omega arith

  -- a step from a met node
  pub back-far : {y d : ℕ} → Back S kind o ms y d → 64 ≤ get_or ms y 0 % 128 → {r : ℕ} → ParentIs S kind o y (get_or ms y 0 % 128) r → (e : ℕ) × (d ≡ suc e) × Back S kind o ms r e
  back-far {y} {d} (Back.seed a s e f) l p = absurd (omega (arith, lettered o a y s))
  back-far {y} {d} (Back.child x a k b s e f) l p = (k, f, subst (λ (z : ℕ). Back S kind o ms z k) (sym (p.far x a s e)) b)

  -- a step from the origin
  pub back-near : {y d : ℕ} → Back S kind o ms y d → get_or ms y 0 % 128 < 64 → d ≡ 1
  back-near {y} {d} (Back.seed a s e f) l = f
  back-near {y} {d} (Back.child x a k b s e f) l = absurd (omega arith)

  pub back-parent : {y d : ℕ} → Back S kind o ms y d → {r : ℕ} → ParentIs S kind o y (get_or ms y 0 % 128) r
      → S r (get_or ms y 0 % 128 / 4 % 16) y × Trail S kind o ms r (d - 1)
  back-parent {y} {d} (Back.seed a s e f) {r = r} p =
      let small = lettered o a y s in
      let from : r ≡ o = p.near (omega arith) in
      let same : get_or ms y 0 % 128 / 4 % 16 ≡ a = omega arith in
      (rw (same, from) s, inl (omega arith, from))
  back-parent {y} {d} (Back.child x a k b s e f) {r = r} p =
      let small = lettered x a y s in
      let three = low x in
      let from : r ≡ x = p.far x a s e in
      let same : get_or ms y 0 % 128 / 4 % 16 ≡ a = omega arith in
      let less : d - 1 ≡ k = omega arith in
      (rw (same, from) s, inr (rw (less, from) b))

-- ---- letters in the word slice

set-take : (l : List ℕ) (n a : ℕ) (rest : List ℕ) → n < length l → set (take (suc n) l ++ rest) n a ≡ take n l ++ (a ∷ rest)
set-take [] n a rest h = absurd (omega arith)
set-take (x ∷ l) zero a rest h = refl
set-take (x ∷ l) (suc n) a rest h = ap (λ (r : List ℕ). x ∷ r) (set-take l n a rest (omega arith))

-- the last letters of a way to y, from x: k are left
pub record Writing (S : ℕ → ℕ → ℕ → Type 0) (y at n : ℕ) (old : List ℕ) (x k : ℕ) (ms : List ℕ) : Type 0 where
  pub letters : List ℕ
  pub route : Route S x letters y
  pub long : length letters + k ≡ n
  pub stands : ms ≡ take (at + k) old ++ (letters ++ drop (at + n) old)

module _ {S : ℕ → ℕ → ℕ → Type 0} {y at n : ℕ} {old : List ℕ} where
  pub writing_start : Writing S y at n old y n old
  writing_start = record { letters = []; route = Route.stay; long = omega arith; stands = sym (take-append-drop (at + n) old) }

  pub writing-next : {x : ℕ} (k a r : ℕ) {ms : List ℕ} → at + k < length old → S r a x → Writing S y at n old x (k + 1) ms → Writing S y at n old r k (set ms (at + k) a)
  writing-next k a r l s w =
      let e : at + (k + 1) ≡ suc (at + k) = omega arith in
      record {
        letters = a ∷ w.letters;
        route = Route.go s w.route;
        long = omega (arith, w.long);
        stands = ap (λ (z : List ℕ). set z (at + k) a) (w.stands ∙ ap (λ (m : ℕ). take m old ++ (w.letters ++ drop (at + n) old)) e)
            ∙ set-take old (at + k) a (w.letters ++ drop (at + n) old) l;
      }

  pub writing-end : (o : ℕ) {x : ℕ} {ms : List ℕ} → x ≡ o → Writing S y at n old x 0 ms → RouteAt S o y at n old ms
  writing-end o e w = let e0 : at + 0 ≡ at = omega arith in record {
    letters = w.letters;
    route = subst (λ (z : ℕ). Route S z w.letters y) e w.route;
    long = omega (arith, w.long);
    stands = w.stands ∙ ap (λ (m : ℕ). take m old ++ (w.letters ++ drop (at + n) old)) e0;
  }

-- a way after what stands already
pub route-after : {S : ℕ → ℕ → ℕ → Type 0} {x y at n : ℕ} (pre old : List ℕ) {word new : List ℕ} → length pre ≡ at → word ≡ pre ++ drop at old → (r : RouteAt S x y at n word new)
    → new ≡ (pre ++ r.letters) ++ drop (at + n) old
route-after {at = at} {n = n} pre old {word = word} l e r =
    let front : take at word ≡ pre = ap (take at) e ∙ take_at pre (drop at old) at l in
    let rest : drop (at + n) word ≡ drop (at + n) old =
    ap (drop (at + n)) e ∙ ap (λ (m : ℕ). drop (m + n) (pre ++ drop at old)) (sym l) ∙ drop-append-add pre (drop at old) n ∙ drop-drop n at old in
    r.stands ∙ ap (λ (z : List ℕ). z ++ (r.letters ++ drop (at + n) word)) front ∙ ap (λ (z : List ℕ). pre ++ (r.letters ++ z)) rest ∙ sym (append_assoc pre r.letters (drop (at + n) old))

-- ---- one way after another, and the two tables' ways

pub route-then : {S : ℕ → ℕ → ℕ → Type 0} {x y z : ℕ} {v w : List ℕ} → Route S x v y → Route S y w z → Route S x (v ++ w) z
route-then Route.stay q = q
route-then {S = S} (Route.go s r) q = Route.go s (route-then r q)

module _ {nb : ℕ} {ma mb : List ℕ} {size : ℕ} (p : Paired nb ma mb size) where
  pub way-first : {x z : ℕ} {w : List ℕ} → Route (PairStep nb ma mb) x w z → Way ma (x / nb) w (z / nb)
  way-first Route.stay = Way.stay
  way-first (Route.go {x} {y} {z} {a} {w} s r) = Way.go s.of_a s.listed_a (record {
    source = sym (ap (λ (n : ℕ). n / nb) s.source ∙ digits_div (source_of s.of_a) (p.sources s.of_b s.listed_b));
    letter = s.letter_a;
    target = sym (ap (λ (n : ℕ). n / nb) s.target ∙ digits_div (target_of s.of_a) (p.targets s.of_b s.listed_b));
  }) (way-first r)

  pub way-second : {x z : ℕ} {w : List ℕ} → Route (PairStep nb ma mb) x w z → Way mb (x % nb) w (z % nb)
  way-second Route.stay = Way.stay
  way-second (Route.go {x} {y} {z} {a} {w} s r) = Way.go s.of_b s.listed_b (record {
    source = sym (ap (λ (n : ℕ). n % nb) s.source ∙ digits_mod (source_of s.of_a) (p.sources s.of_b s.listed_b));
    letter = s.letter_b;
    target = sym (ap (λ (n : ℕ). n % nb) s.target ∙ digits_mod (target_of s.of_a) (p.targets s.of_b s.listed_b));
  }) (way-second r)
