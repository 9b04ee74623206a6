-- The laws of a round: what settling leaves after a sweep.
use mathlib.Core.Path.{◌≡◌, refl, sym, ap, subst, ◌∙◌}
use mathlib.Core.Logic.{◌⊎◌, inl, inr, ⊎_elim, by_cases}
use mathlib.Core.Bool.{Bool, true, false, ◌||◌, or-false, false≢true}
use mathlib.Core.List.{List}
use Prim.Native.Nat.{ℕ, zero, suc, ◌+◌, ◌-◌, ◌/◌, ◌≤◌, ◌<◌}
use native.Mathlib.Omega.{arith}
use native.Mathlib.Decide.{dec_lt, ℕ_discrete}
use lib.ListN.{length, get_or, set, length-set, get_or-eq_default}
use Rattle.sets.proofs.Bools.{or_cases, or-fl, or-fr}
use Rattle.graph_walks.specs.Walks.{Walk}
use Rattle.graph_walks.proofs.Sums.{split-set, sum_lt}
use Rattle.graph_walks.proofs.Rounds.{where-cases}
use Rattle.stricter_spec.specs.Rounds.{Marking, Swept, Round}
use Rattle.stricter_laws.specs.Parts.{Settled}
use Rattle.stricter_laws.proofs.Tries.{toward-more, marking-low, marking-sub, marking-in, marking-toward}

-- ---- nodes one after another

-- nodes that are out stay out
pub settled-out : (from to : ℕ) (ms : List ℕ) → ((x : ℕ) → from ≤ x → x < to → get_or ms x 0 ≡ 0) → Settled from to ms ms false
settled-out from to ms o = record {
  long = refl;
  inside = λ x a b. let e = o x a b in omega arith;
  outside = λ x h. refl;
  some = λ e. absurd (false≢true e);
  none = λ e x a b h. let k = o x a b in omega arith;
}

pub settled-start : (from : ℕ) (ms : List ℕ) → Settled from from ms ms false
settled-start from ms = settled-out from from ms (λ x a b. absurd (omega arith))

-- the next, which becomes v: `now` says whether some node was 1, with this one
pub settled-next : {from i : ℕ} {old ms : List ℕ} {changed : Bool} → Settled from i old ms changed → from ≤ i → i < length ms → (v : ℕ)
    → v ≡ get_or ms i 0 / 2 → (now : Bool)
    → (now ≡ true → (changed ≡ true) ⊎ (get_or ms i 0 ≡ 1)) → (now ≡ false → (changed ≡ false) × (get_or ms i 0 ≡ 1 → ⊥))
    → Settled from (i + 1) old (set ms i v) now
settled-next {from = from} {i = i} {old = old} {ms = ms} s l h v d now a b = record {
  long = length-set ms i v ∙ s.long;
  inside = split-set (λ x w. from ≤ x → x < i + 1 → w ≡ get_or old x 0 / 2) ms i v h
      (λ f t. d ∙ ap (λ (w : ℕ). w / 2) at) (λ x n f t. s.inside x f (omega arith));
  outside = split-set (λ x w. (x < from) ⊎ (i + 1 ≤ x) → w ≡ get_or old x 0) ms i v h
      (λ o. absurd (⊎_elim (λ t. omega arith) (λ t. omega arith) o)) (λ x n o. s.outside x (⊎_elim (λ t. inl t) (λ t. inr (omega arith)) o));
  some = λ e. ⊎_elim (λ c. let k = s.some c in (k.0, k.1, omega (arith, k.2), k.3)) (λ g. (i, l, omega arith, sym at ∙ g)) (a e);
  none = λ e x f t g. by_cases (ℕ_discrete x i)
      (λ q. (b e).1 (at ∙ subst (λ (n : ℕ). get_or old n 0 ≡ 1) q g))
      (λ q. s.none (b e).0 x f (omega arith) g);
}
  where
    at : get_or ms i 0 ≡ get_or old i 0
    at = s.outside i (inr (omega arith))

pub settled-then : {from mid to : ℕ} {old ms new : List ℕ} {a b : Bool} (now : Bool) → from ≤ mid → mid ≤ to → Settled from mid old ms a → Settled mid to ms new b
    → now ≡ (a || b) → Settled from to old new now
settled-then {mid = mid} {old = old} {ms = ms} {a = a} {b = b} now f t r q e = record {
  long = q.long ∙ r.long;
  inside = λ x h k. by_cases (dec_lt x mid)
      (λ l. q.outside x (inl l) ∙ r.inside x h l)
      (λ l. q.inside x (omega arith) k ∙ ap (λ (v : ℕ). v / 2) (later x (omega arith)));
  outside = λ x o. ⊎_elim (λ l. q.outside x (inl (omega arith)) ∙ r.outside x (inl l)) (λ l. q.outside x (inr l) ∙ r.outside x (inr (omega arith))) o;
  some = λ s. ⊎_elim
      (λ g. let k = r.some g in (k.0, k.1, omega (arith, k.2), k.3))
      (λ g. let k = q.some g in (k.0, omega (arith, k.1), k.2, sym (later k.0 k.1) ∙ k.3))
      (or_cases a b (sym e ∙ s));
  none = λ s x h k g. by_cases (dec_lt x mid)
      (λ l. r.none (or-fl a b (sym e ∙ s)) x h l g)
      (λ l. q.none (or-fr a b (sym e ∙ s)) x (omega arith) k (later x (omega arith) ∙ g));
}
  where
    later : (x : ℕ) → mid ≤ x → get_or ms x 0 ≡ get_or old x 0
    later x l = r.outside x (inr l)

-- zeros from node i up to `to`
pub settled-zeros : {from i : ℕ} (to : ℕ) {old ms : List ℕ} {changed : Bool} → Settled from i old ms changed → from ≤ i → i ≤ to
    → ((x : ℕ) → i ≤ x → x < to → get_or ms x 0 ≡ 0) → Settled from to old ms changed
settled-zeros {i = i} to {ms = ms} {changed = changed} s f t o = settled-then changed f t s (settled-out i to ms o) (sym (or-false changed))

-- nothing comes in
pub settled-sub : {from to : ℕ} {old new : List ℕ} {changed : Bool} → Settled from to old new changed → (x : ℕ) → 0 < get_or new x 0 → 0 < get_or old x 0
settled-sub {from = from} {to = to} s x h =
    where-cases from to x (λ a b. let e = s.inside x a b in omega arith) (λ o. let e = s.outside x o in omega arith)

-- ---- a round

module _ {E F : ℕ → ℕ → Type 0} {old ms new : List ℕ} {changed : Bool} (low : (x : ℕ) → get_or old x 0 ≤ 1)
    (k : Swept E F old ms) (s : Settled 0 (length ms) ms new changed) where
  m : Marking E F old ms
  m = k.marking

  half : (x : ℕ) → get_or new x 0 ≡ get_or ms x 0 / 2
  half x =
      where-cases 0 (length ms) x (λ a b. s.inside x a b)
      (λ o. ⊎_elim (λ l. absurd (omega arith)) (λ l. let e = get_or-eq_default ms 0 {n = x} l in let f = s.outside x o in omega arith) o)

  high : (x : ℕ) → get_or ms x 0 ≤ 2
  high = marking-low low m

  stays : (x : ℕ) → 2 ≤ get_or ms x 0 → 0 < get_or new x 0
  stays x h = let e = half x in omega arith

  left : (x : ℕ) → 0 < get_or new x 0 → 2 ≤ get_or ms x 0
  left x h = let e = half x in omega arith

  sub : (x : ℕ) → 0 < get_or new x 0 → 0 < get_or old x 0
  sub x h = marking-sub low m x (let g = left x h in omega arith)

  -- a node that is in is marked, or 1
  in-cases : {C : Type 0} (x : ℕ) → 0 < get_or old x 0 → (2 ≤ get_or ms x 0 → C) → (get_or ms x 0 ≡ 1 → C) → C
  in-cases x h f g =
      let a = marking-in low m x h in
      by_cases (dec_lt 1 (get_or ms x 0)) (λ l. f (omega arith)) (λ l. g (omega arith))

  same : changed ≡ false → (x : ℕ) → 0 < get_or old x 0 → 0 < get_or new x 0
  same e x h = in-cases x h (λ g. stays x g) (λ g. absurd (s.none e x (omega arith) (place x g) g))
    where
      place : (x : ℕ) → get_or ms x 0 ≡ 1 → x < length ms
      place x g = by_cases (dec_lt x (length ms)) (λ l. l) (λ l. let d = get_or-eq_default ms 0 {n = x} (omega arith) in absurd (omega arith))

  -- from an edge that spares back along a walk
  back-along : {z : ℕ → ℕ} → Walk E z → ((i : ℕ) → 0 < get_or old (z i) 0) → (d i j : ℕ) → j ≡ i + d → F (z j) (z (suc j)) → 2 ≤ get_or ms (z i) 0
  back-along {z = z} w h zero i j e f =
      let q : j ≡ i = omega arith in
      let f₂ : F (z i) (z (suc i)) = subst (λ (n : ℕ). F (z n) (z (suc n))) q f in
      in-cases (z i) (h i) (λ g. g) (λ g. let n = (k.stuck (z i) g).spared (z (suc i)) f₂ in let y = marking-in low m (z (suc i)) (h (suc i)) in absurd (omega arith))
  back-along {z = z} w h (suc d) i j e f =
      let q = back-along w h d (suc i) j (omega arith) f in
      in-cases (z i) (h i) (λ g. g) (λ g. let n = (k.stuck (z i) g).passes (z (suc i)) (w i) in absurd (omega arith))

  pub round-of : Round E F old new changed
  round-of = record {
    long = s.long ∙ m.long;
    low = λ x. let e = half x in let h = high x in omega arith;
    sub = sub;
    same = same;
    sound = λ e x h. toward-more new (same e) (marking-toward low m x (left x h));
    keeps = λ z w h a i. let (j, l, f) = a i in stays (z i) (back-along w h (j - i) i j (omega arith) f);
    less = λ e. let (x, a, b, g) = s.some e in
        sum_lt new old (s.long ∙ m.long) (λ y. below y) x
        (let f = half x in let h = marking-sub low m x (omega arith) in omega arith);
  }
    where
      below : (y : ℕ) → get_or new y 0 ≤ get_or old y 0
      below y = let e = half y in let h = high y in by_cases (dec_lt 0 (get_or new y 0)) (λ l. let g = sub y l in omega arith) (λ l. omega arith)
