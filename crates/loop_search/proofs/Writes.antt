-- Writing the loop: the states written so far, then the route from the state that is next.
use mathlib.Core.Path.{◌≡◌, refl, sym, ◌∙◌, ap}
use mathlib.Core.Bool.{Bool, true, false, ◌&&◌, ◌||◌}
use mathlib.Core.List.{List, [], ◌∷◌, ◌++◌, append_assoc}
use Prim.Native.Nat.{ℕ, suc, ◌+◌, ◌-◌, ◌≤◌, ◌<◌}
use native.Mathlib.Omega.{arith}
use native.Mathlib.Numerals.{add-one}
use lib.Bits.{bit_and}
use lib.Count.{count_trailing_zeros}
use lib.ListN.{length, get_or, set, drop, length-append}
use lib.Seq.{drop-cons, set_at}
use Rattle.sets.specs.Tests.{Set, some_below, first}
use Rattle.sets.specs.Masks.{bit}
use Rattle.sets.proofs.Bools.{and_r}
use Rattle.sets.proofs.Tests.{first-at, first-le, first-ext, some_at, some-get}
use Rattle.sets.proofs.Bits.{bit-and}
use Rattle.sets.proofs.Members.{least-is}
use Rattle.loop_spec.specs.Search.{leads_by, ways, way_by, route}
use Rattle.loop_spec.proofs.Masks.{can-walk}
use Rattle.loop_spec.proofs.Routes.{next-state}

-- a search finds the same below every bound that has a number that passes
first-narrow : (m n : ℕ) (f : Set) (p : ℕ) → n ≤ m → p < n → f p ≡ true → first m f 0 ≡ first n f 0
first-narrow m n f p h l e =
    let a = first-le n f 0 (first m f 0) (omega arith) (first-at m f 0 p (omega arith) (omega arith) e) in
    let b = first-le m f 0 (first n f 0) (omega arith) (first-at n f 0 p (omega arith) (omega arith) e) in
    omega arith

-- the least state that two sets have in common
pub least-common : (n x m : ℕ) → n ≤ 8 → some_below n (λ p. bit x p && bit m p) ≡ true → count_trailing_zeros 8 (bit_and x m) ≡ first n (λ p. bit x p && bit m p) 0
least-common n x m h e =
    let s = some-get n (λ p. bit x p && bit m p) e in
    least-is 8 (bit_and x m)
    ∙ first-ext 8 0 (bit (bit_and x m)) (λ p. bit x p && bit m p) (λ j a b. bit-and x m j)
    ∙ first-narrow 8 n (λ p. bit x p && bit m p) s.0 h s.1 s.2

module _ (n : ℕ) (es : List ℕ) (others t : ℕ) where
  -- the test for the state after q, where j + 1 steps are left from it
  abbrev pub next : ℕ → Bool → ℕ → Set
  next k passed q p = leads_by es q p && bit (way_by n es (bit others) t k passed) p

  pub record Written (k : ℕ) (old : List ℕ) (i : ℕ) (out : List ℕ) (q : ℕ) (passed : Bool) : Type 0 where
    pub far : i ≤ k
    pub state : q < n
    pub may : bit (way_by n es (bit others) t (suc (k - i)) passed) q ≡ true
    pub front : List ℕ
    pub long : length front ≡ i
    pub slice : out ≡ front ++ drop i old
    pub whole : route n es (bit others) t k false t ≡ front ++ route n es (bit others) t (k - i) passed q

-- the list with one state more
put : (old : List ℕ) (i : ℕ) (front : List ℕ) (q : ℕ) → length front ≡ i → i < length old → set (front ++ drop i old) i q ≡ front ++ (q ∷ drop (suc i) old)
put old i front q e m = rw (drop-cons old i 0 m) (set_at front (get_or old i 0) (drop (suc i) old) q i e)

pub written_none : {n : ℕ} {es : List ℕ} {others t k : ℕ} {old : List ℕ} → t < n → bit (ways n es (bit others) t (suc k)).mixed t ≡ true
    → Written n es others t k old 0 old t false
written_none {k = k} l e =
    let z : k - 0 ≡ k = omega arith in
    record { far = omega arith; state = l; may = rw z e; front = []; long = refl; slice = refl; whole = rw z refl }

module _ {n : ℕ} {es : List ℕ} {others t k : ℕ} {old : List ℕ} {i : ℕ} {out : List ℕ} {q : ℕ} {passed : Bool} (w : Written n es others t k old i out q passed) where
  -- a state may follow
  pub may-follow : t < n → i < k → some_below n (next n es others t (k - i) (passed || bit others q) q) ≡ true
  may-follow l m =
      let x : k - i ≡ suc (k - suc i) = omega arith in
      let v = can-walk n es (bit others) t l (suc (k - suc i)) passed q w.state (rw x at w.may) in
      let s = next-state n es (bit others) t l (k - suc i) passed q w.state v.0 v.1 v.2 in
      rw x (some_at n (next n es others t (suc (k - suc i)) (passed || bit others q) q) s.0 s.1 s.2)

  further : t < n → k < length old → i < k
      → Written n es others t k old (i + 1) (set out i q) (first n (next n es others t (k - i) (passed || bit others q) q) 0) (passed || bit others q)
  unfolding route
  further l room m =
      let x : k - i ≡ suc (k - (i + 1)) = omega arith in
      let f = next n es others t (k - i) (passed || bit others q) q in let s = some-get n f (may-follow l m) in
      let p = first n f 0 in
      let g : f p ≡ true = first-at n f 0 s.0 (omega arith) (omega (arith, s.1)) s.2 in
      let b = and_r (leads_by es q p) (bit (way_by n es (bit others) t (k - i) (passed || bit others q)) p) g in
      -- one state less of the route
      let r : route n es (bit others) t (k - i) passed q ≡ q ∷ route n es (bit others) t (k - (i + 1)) (passed || bit others q) p = rw x refl in
      record {
        far = omega arith;
        state = omega (arith, first-le n f 0 s.0 (omega arith) s.2, s.1);
        may = rw (sym x) b;
        front = w.front ++ (q ∷ []);
        long = length-append w.front (q ∷ []) ∙ ap (λ (y : ℕ). y + 1) w.long;
        slice = ap (λ (l : List ℕ). set l i q) w.slice ∙ put old i w.front q w.long (omega arith) ∙ rw (add-one i, append_assoc);
        whole = w.whole ∙ ap (λ (l : List ℕ). w.front ++ l) r ∙ sym (append_assoc w.front (q ∷ []) (route n es (bit others) t (k - (i + 1)) (passed || bit others q) p));
      }

  pub written_next : t < n → k < length old → i < k → {p : ℕ} {now : Bool} → now ≡ passed || bit others q → p ≡ first n (next n es others t (k - i) now q) 0
      → Written n es others t k old (i + 1) (set out i q) p now
  written_next l room m e f = rw (f, e) (further l room m)

  pub written_all : k < length old → i ≡ k → set out k q ≡ route n es (bit others) t k false t ++ drop (k + 1) old
  unfolding route
  written_all room e =
      let z : k - i ≡ 0 = omega arith in
      let h : route n es (bit others) t k false t ≡ w.front ++ (q ∷ []) = w.whole ∙ rw z refl in
      ap (λ (l : List ℕ). set l k q) (w.slice ∙ ap (λ (x : ℕ). w.front ++ drop x old) e)
      ∙ put old k w.front q (w.long ∙ e) room
      ∙ rw (h, add-one k, append_assoc)
