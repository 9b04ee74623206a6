-- The laws of a search: marks by marks, and what it has found at the end.
use mathlib.Core.Path.{◌≡◌, refl, sym, ap, subst, ◌∙◌}
use mathlib.Core.Logic.{◌⊎◌, inl, inr, ⊎_elim, by_cases}
use mathlib.Core.List.{List, [], ◌∷◌}
use Prim.Native.Nat.{ℕ, zero, suc, ◌+◌, ◌*◌, ◌%◌, ◌≤◌, ◌<◌}
use native.Mathlib.Omega.{arith}
use native.Mathlib.Decide.{ℕ_discrete, dec_lt}
use borrow.Author.Tests.{lt-ltb}
use lib.ListN.{length, get_or, set, length-set}
use lib.Seq.{get_or-set_same, get_or-set_other}
use Rattle.graph_walks.proofs.Sums.{has-place, split-set}
use Rattle.theory.specs.Run.{target_of}
use Rattle.stricter_laws.specs.Pairs.{Beside}
use Rattle.stricter_laws.proofs.Rows.{beside-next}
use Rattle.stricter_laws.specs.Forest.{met, Marked, Tried, Back, Forest}

-- ---- the number of nodes met

met-in : (v : ℕ) (vs : List ℕ) → 1 < v → met (v ∷ vs) ≡ suc (met vs)
unfolding met
met-in v vs l = rw (lt-ltb 1 v l) (omega arith)

met-out : (v : ℕ) (vs : List ℕ) → (1 < v → ⊥) → met (v ∷ vs) ≡ met vs
unfolding met
met-out v vs n = by_cases (ℕ_discrete v 0) (λ e. rw e (omega arith)) (λ k. let e : v ≡ 1 = by_cases (dec_lt 1 v) (λ h. absurd (n h)) (λ h. omega arith) in rw e (omega arith))

pub met-most : (ms : List ℕ) → met ms ≤ length ms
unfolding met
met-most [] = omega arith
met-most (v ∷ vs) =
    let ih = met-most vs in
    by_cases (dec_lt 1 v) (λ l. let f = met-in v vs l in omega arith) (λ l. let f = met-out v vs l in omega arith)

met-step : (v w : ℕ) (vs ws : List ℕ) → (1 < v → 1 < w) → (k : ℕ) → met vs + k ≤ met ws → met (v ∷ vs) + k ≤ met (w ∷ ws)
met-step v w vs ws h k ih =
    by_cases (dec_lt 1 v)
    (λ l. let f = met-in v vs l in let g = met-in w ws (h l) in omega arith)
    (λ l. let f = met-out v vs l in by_cases (dec_lt 1 w) (λ m. let g = met-in w ws m in omega arith) (λ m. let g = met-out w ws m in omega arith))

pub met-le : (ms ns : List ℕ) → length ms ≡ length ns → ((x : ℕ) → 1 < get_or ms x 0 → 1 < get_or ns x 0) → met ms ≤ met ns
unfolding met
met-le [] ns e h = omega arith
met-le (v ∷ vs) [] e h = absurd (omega arith)
met-le (v ∷ vs) (w ∷ ws) e h = let ih = met-le vs ws (omega arith) (λ x. h (suc x)) in omega (arith, met-step v w vs ws (h 0) 0 (omega arith))

pub met-lt : (ms ns : List ℕ) → length ms ≡ length ns → ((x : ℕ) → 1 < get_or ms x 0 → 1 < get_or ns x 0) → (x : ℕ) → (1 < get_or ms x 0 → ⊥) → 1 < get_or ns x 0 → met ms < met ns
met-lt [] ns e h x a b = let l = has-place ns x (omega arith) in absurd (omega arith)
met-lt (v ∷ vs) [] e h x a b = absurd (omega arith)
met-lt (v ∷ vs) (w ∷ ws) e h zero a b =
    let le = met-le vs ws (omega arith) (λ x. h (suc x)) in
    let f = met-out v vs a in let g = met-in w ws b in omega arith
met-lt (v ∷ vs) (w ∷ ws) e h (suc x) a b =
    let ih = met-lt vs ws (omega arith) (λ x. h (suc x)) x a b in omega (arith, met-step v w vs ws (h 0) 1 (omega arith))

-- ---- one node after another

pub marked_start : (D : ℕ → Type 0) (byte : ℕ) (ms : List ℕ) → ((y : ℕ) → D y → ⊥) → Marked D byte ms ms
marked_start D byte ms n = record { long = refl; each = λ y. inl refl; closed = λ y d l. absurd (n y d) }

module _ {D : ℕ → Type 0} {D' : ℕ → Type 0} {byte : ℕ} (big : 1 < byte) {old ms : List ℕ} (w : Marked D byte old ms) (x : ℕ)
    (wider : (y : ℕ) → D y → D' y) (next : (y : ℕ) → D' y → D y ⊎ (y ≡ x)) where
  was-in : (y : ℕ) → 0 < get_or old y 0 → 0 < get_or ms y 0
  was-in y l = ⊎_elim (λ e. omega arith) (λ t. omega (arith, t.2)) (w.each y)

  -- the node x is left
  pub marked-stay : (get_or ms x 0 ≡ 1 → ⊥) → Marked D' byte old ms
  marked-stay n = record {
    long = w.long;
    each = λ y. ⊎_elim (λ e. inl e) (λ t. inr (wider y t.0, t.1, t.2)) (w.each y);
    closed = λ y d l. ⊎_elim (λ e. w.closed y e l) (λ e. let k = was-in y l in let g : get_or ms x 0 ≡ get_or ms y 0 = ap (λ (z : ℕ). get_or ms z 0) (sym e) in
        by_cases (ℕ_discrete (get_or ms x 0) 1) (λ h. absurd (n h)) (λ h. omega arith)) (next y d);
  }

  -- it gets the byte
  pub marked-set : D' x → get_or ms x 0 ≡ 1 → Marked D' byte old (set ms x byte)
  marked-set here one =
      let place : x < length ms = has-place ms x (omega arith) in
      let at : get_or (set ms x byte) x 0 ≡ byte = get_or-set_same ms x byte 0 place in
      record {
        long = length-set ms x byte ∙ w.long;
        each = λ y. by_cases (ℕ_discrete y x)
            (λ e. inr (subst D' (sym e) here, ap (λ (z : ℕ). get_or old z 0) e ∙ ⊎_elim (λ f. sym f ∙ one) (λ t. t.1) (w.each x), ap (λ (z : ℕ). get_or (set ms x byte) z 0) e ∙ at))
            (λ n. let f = get_or-set_other ms x y byte 0 n in ⊎_elim (λ e. inl (f ∙ e)) (λ t. inr (wider y t.0, t.1, f ∙ t.2)) (w.each y));
        closed = λ y d l. by_cases (ℕ_discrete y x)
            (λ e. rw (e, at) big)
            (λ n. let f = get_or-set_other ms x y byte 0 n in ⊎_elim (λ e. rw f (w.closed y e l)) (λ e. absurd (n e)) (next y d));
      }

pub marked-end : {D : ℕ → Type 0} (D' : ℕ → Type 0) {byte : ℕ} {old new : List ℕ} → ((y : ℕ) → D y → D' y) → ((y : ℕ) → D' y → D y) → Marked D byte old new → Marked D' byte old new
marked-end D' f g w = record {
  long = w.long;
  each = λ y. ⊎_elim (λ e. inl e) (λ t. inr (f y t.0, t.1, t.2)) (w.each y);
  closed = λ y d l. w.closed y (g y d) l;
}

-- ---- the transitions of A beside a number of B

module _ {nb : ℕ} {moves : List ℕ} {from c q : ℕ} {byte : ℕ} (big : 1 < byte) {old ms : List ℕ} (w : Marked (Beside nb moves from c q) byte old ms) {x : ℕ}
    (here : x ≡ target_of (get_or moves c 0) * nb + q) where
  wider : (y : ℕ) → Beside nb moves from c q y → Beside nb moves from (c + 1) q y
  wider y b = record { place = b.place; above = b.above; under = omega (arith, b.under); node = b.node }

  next : (y : ℕ) → Beside nb moves from (c + 1) q y → Beside nb moves from c q y ⊎ (y ≡ x)
  next y b = ⊎_elim (λ h. inl h) (λ e. inr (e ∙ sym here)) (beside-next c b)

  pub meet-stay : (get_or ms x 0 ≡ 1 → ⊥) → Marked (Beside nb moves from (c + 1) q) byte old ms
  meet-stay n = marked-stay big w x wider next n

  pub meet-set : from ≤ c → get_or ms x 0 ≡ 1 → Marked (Beside nb moves from (c + 1) q) byte old (set ms x byte)
  meet-set l e = marked-set big w x wider next (record { place = c; above = l; under = omega arith; node = here }) e

-- ---- one letter after another

module _ {S : ℕ → ℕ → Type 0} {D : ℕ → Type 0} {base : ℕ} where
  pub tried-start : (ms : List ℕ) → ((y : ℕ) → D y → ⊥) → Tried S D base ms ms
  tried-start ms n = record { long = refl; each = λ y. inl refl; closed = λ y d l. absurd (n y d) }

  pub tried-next : {E : ℕ → Type 0} (D' : ℕ → Type 0) (a : ℕ) {old ms new : List ℕ} → 1 < base → ((y : ℕ) → E y → S a y) → ((y : ℕ) → D' y → D y ⊎ E y)
      → Tried S D base old ms → Marked E (base + 4 * a) ms new → Tried S D' base old new
  tried-next D' a big steps next t m = record {
    long = m.long ∙ t.long;
    each = λ y. ⊎_elim
        (λ e. ⊎_elim (λ f. inl (e ∙ f)) (λ f. inr (f.0, f.1, f.2, e ∙ f.3)) (t.each y))
        (λ e. ⊎_elim (λ f. inr (a, steps y e.0, sym f ∙ e.1, e.2)) (λ f. absurd (omega (arith, f.3, e.1))) (t.each y))
        (m.each y);
    closed = λ y d l. ⊎_elim
        (λ h. let k = t.closed y h l in ⊎_elim (λ e. omega arith) (λ e. absurd (omega (arith, e.1))) (m.each y))
        (λ h. m.closed y h (⊎_elim (λ f. omega arith) (λ f. omega (arith, f.3)) (t.each y)))
        (next y d);
  }

  pub tried-end : (D' : ℕ → Type 0) {old new : List ℕ} → ((y : ℕ) → D' y → D y) → Tried S D base old new → Tried S D' base old new
  tried-end D' f t = record { long = t.long; each = t.each; closed = λ y d l. t.closed y (f y d) l }

module _ {S : ℕ → ℕ → Type 0} {D : ℕ → Type 0} {base : ℕ} (big : 1 < base) {old new : List ℕ} (t : Tried S D base old new) where
  pub tried-more : (x : ℕ) → get_or old x 0 ≤ get_or new x 0
  tried-more x = ⊎_elim (λ e. omega arith) (λ e. omega (arith, e.2, e.3)) (t.each x)

  pub tried-within : (x : ℕ) → 0 < get_or new x 0 → 0 < get_or old x 0
  tried-within x l = ⊎_elim (λ e. omega arith) (λ e. omega (arith, e.2)) (t.each x)

  pub tried_same : (x : ℕ) → 1 < get_or old x 0 → get_or new x 0 ≡ get_or old x 0
  tried_same x l = ⊎_elim (λ e. e) (λ e. absurd (omega (arith, e.2))) (t.each x)

-- ---- ways back

module _ {S : ℕ → ℕ → ℕ → Type 0} {kind : ℕ → ℕ} {o : ℕ} where
  pub back-met : {ms : List ℕ} {y d : ℕ} → Back S kind o ms y d → 1 < get_or ms y 0
  back-met {y} {d} (Back.seed a s e f) = omega arith
  back-met {y} {d} (Back.child x a k b s e f) = omega arith

  pub back_keep : {ms : List ℕ} (ns : List ℕ) → ((x : ℕ) → 1 < get_or ms x 0 → get_or ns x 0 % 128 ≡ get_or ms x 0 % 128) → {y d : ℕ} → Back S kind o ms y d → Back S kind o ns y d
  back_keep ns h {y} {d} (Back.seed a s e f) = Back.seed a s (h y (omega arith) ∙ e) f
  back_keep {ms = ms} ns h {y} {d} (Back.child x a k b s e f) = Back.child x a k (back_keep ns h b) s (h y (omega arith) ∙ e) f

  -- nothing is met: each node is 0 or 1
  pub forest-start : (ms : List ℕ) → ((x : ℕ) → get_or ms x 0 ≤ 1) → Forest S kind o ms
  forest-start ms h = record { back = λ x l. absurd (omega (arith, h x)); done = λ x l a y s k. absurd (omega (arith, h x)) }

  -- the steps of x are tried
  module _ (x : ℕ) {base : ℕ} (lettered : (a y : ℕ) → S x a y → a < 16) (low : kind x ≤ 3) {D : ℕ → Type 0} {ms ns : List ℕ} (f : Forest S kind o ms)
      (hangs : ((base ≡ 3) × (x ≡ o)) ⊎ ((base ≡ 64 + kind x) × (1 < get_or ms x 0))) (t : Tried (S x) D base ms ns) where
    base-low : (1 < base) × (base ≤ 67)
    base-low = ⊎_elim (λ h. let e = h.0 in omega arith) (λ h. let e = h.0 in omega arith) hangs

    kept : (y : ℕ) → 1 < get_or ms y 0 → get_or ns y 0 % 128 ≡ get_or ms y 0 % 128
    kept y l = ap (λ (v : ℕ). v % 128) (tried_same base-low.0 t y l)

    grows : (y : ℕ) → 1 < get_or ms y 0 → 1 < get_or ns y 0
    grows y l = let e = tried_same base-low.0 t y l in omega arith

    pub forest-tried : Forest S kind o ns
    forest-tried = record {
      back = λ y l. ⊎_elim
          (λ e. let (d, h, b) = f.back y (omega arith) in (d, (let k = met-le ms ns (sym t.long) grows in omega arith), back_keep ns kept b))
          (λ e. let (a, s, one, byte) = e in
          let less = met-lt ms ns (sym t.long) grows y (λ k. omega arith) l in
          let small = lettered a y s in
          let bounds = base-low in
          ⊎_elim
          (λ h. let fst = h.0 in (1, omega arith, Back.seed a (subst (λ (z : ℕ). S z a y) h.1 s) (omega arith) refl))
          (λ h. let fst = h.0 in let (d, k, b) = f.back x h.1 in (suc d, omega arith, Back.child x a d (back_keep ns kept b) s (omega arith) refl))
          hangs)
          (t.each y);
      done = λ y l a z s k. ⊎_elim
          (λ e. grows z (f.done y (omega arith) a z s (tried-within base-low.0 t z k)))
          (λ e. let small = lettered e.0 y e.1 in let bounds = base-low in absurd (omega (arith, e.3)))
          (t.each y);
    }

  -- they are all tried: 128 more for x
  pub forest-done : {ns : List ℕ} (x v : ℕ) → Forest S kind o ns → get_or ns x 0 ≡ v → 1 < v → v < 128 → ((a y : ℕ) → S x a y → 0 < get_or ns y 0 → 1 < get_or ns y 0)
      → Forest S kind o (set ns x (v + 128))
  forest-done {ns = ns} x v f e big small all =
      let place : x < length ns = has-place ns x (omega arith) in
      let at : get_or (set ns x (v + 128)) x 0 ≡ v + 128 = get_or-set_same ns x (v + 128) 0 place in
      let kept : (y : ℕ) → 1 < get_or ns y 0 → get_or (set ns x (v + 128)) y 0 % 128 ≡ get_or ns y 0 % 128 =
      λ y l. by_cases (ℕ_discrete y x) (λ g. rw (g, at, e) (omega arith)) (λ g. ap (λ (u : ℕ). u % 128) (get_or-set_other ns x y (v + 128) 0 g)) in
      let grows : (y : ℕ) → 1 < get_or ns y 0 → 1 < get_or (set ns x (v + 128)) y 0 =
      λ y l. by_cases (ℕ_discrete y x) (λ g. rw (g, at) (omega arith)) (λ g. rw (get_or-set_other ns x y (v + 128) 0 g) l) in
      let less : (y : ℕ) → 1 < get_or (set ns x (v + 128)) y 0 → 1 < get_or ns y 0 =
      λ y. split-set (λ (z u : ℕ). 1 < u → 1 < get_or ns z 0) ns x (v + 128) place (λ l. omega arith) (λ j n l. l) y in
      let within : (y : ℕ) → 0 < get_or (set ns x (v + 128)) y 0 → 0 < get_or ns y 0 =
      λ y. split-set (λ (z u : ℕ). 0 < u → 0 < get_or ns z 0) ns x (v + 128) place (λ l. omega arith) (λ j n l. l) y in
      record {
        back = λ y l. let (d, h, b) = f.back y (less y l) in (
          d,
          (let k = met-le ns (set ns x (v + 128)) (sym (length-set ns x (v + 128))) grows in omega arith),
          back_keep (set ns x (v + 128)) kept b,
        );
        done = λ y l a z s k. grows z (by_cases (ℕ_discrete y x)
            (λ g. all a z (subst (λ (u : ℕ). S u a z) g s) (within z k))
            (λ g. f.done y (let o = get_or-set_other ns x y (v + 128) 0 g in omega arith) a z s (within z k)));
      }
