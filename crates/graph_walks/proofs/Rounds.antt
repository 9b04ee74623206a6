-- The laws of rounds: what settling takes out, and what walks are kept.
use mathlib.Core.Path.{◌≡◌, refl, sym, ap, ◌∙◌}
use mathlib.Core.Logic.{◌⊎◌, inl, inr, ⊎_elim, by_cases}
use mathlib.Core.Bool.{Bool, true, false, false≢true}
use mathlib.Core.List.{List, [], ◌∷◌}
use Prim.Native.Nat.{ℕ, zero, suc, ◌+◌, ◌-◌, ◌*◌, ◌≤◌, ◌<◌}
use native.Mathlib.Omega.{arith}
use native.Mathlib.Decide.{dec_le, dec_lt, ℕ_discrete}
use lib.ListN.{length, get_or, set, length-set, get_or-eq_default}
use borrow.Author.Tests.{eqb-true, eq-eqb, lt-ltb, le-ltb}
use Rattle.sets.specs.Lists.{sum}
use Rattle.sets.proofs.Bools.{clash}
use Rattle.graph_walks.specs.Walks.{Walk, Toward, Pruned, Solved}
use Rattle.graph_walks.specs.Marks.{settled, goes_out_lem}
use Rattle.graph_walks.specs.Rounds.{Settling, Marking, Stable, SolveRound}
use Rattle.graph_walks.proofs.Sums.{split-set, has-place, sum-le, sum_lt, sum-most}
use Rattle.graph_walks.proofs.Marking.{Round}

-- ---- examples

-- marked nodes have their marks back, the others are out
settling : (settled 4 ≡ 2) × (settled 3 ≡ 1) × (settled 2 ≡ 0) × (settled 1 ≡ 0) × (settled 0 ≡ 0)
unfolding settled
settling = (refl, refl, refl, refl, refl)

-- only an accepting node that is not marked counts
going-out : (goes_out_lem 4 ≡ false) × (goes_out_lem 3 ≡ false) × (goes_out_lem 2 ≡ true) × (goes_out_lem 1 ≡ false) × (goes_out_lem 0 ≡ false)
unfolding goes_out_lem
going-out = (refl, refl, refl, refl, refl)

-- a node that is in and not accepting, with or without an edge to itself
one-goes-out : (F : ℕ → ℕ → Type 0) → Solved F (1 ∷ []) (0 ∷ [])
one-goes-out F = record {
  long = refl;
  each = λ x. inl (out x);
  sound = λ x h. absurd (omega (arith, out x));
  keeps = λ z w h a. let (j, l, c) = a 0 in absurd (omega (arith, low (z j)));
}
  where
    low : (x : ℕ) → get_or (1 ∷ []) x 0 ≤ 1
    low zero = omega arith
    low (suc x) = omega arith

    out : (x : ℕ) → ◌≡◌ {A = ℕ} (get_or (0 ∷ []) x 0) 0
    out zero = refl
    out (suc x) = refl

-- with no accepting node nothing is left
nowhere : (F : ℕ → ℕ → Type 0) (marks : List ℕ) → ((x : ℕ) → get_or marks x 0 ≤ 1) → {x : ℕ} → Toward F marks x → ⊥
nowhere F marks low (Toward.arrives y e h) = omega (arith, low y)
nowhere F marks low (Toward.passes y e h t) = nowhere F marks low t

none_left : (F : ℕ → ℕ → Type 0) (old new : List ℕ) → ((x : ℕ) → get_or old x 0 ≤ 1) → Solved F old new → (x : ℕ) → get_or new x 0 ≡ 0
none_left F old new low s x =
    by_cases (dec_lt 0 (get_or new x 0))
    (λ h. absurd (nowhere F new (λ y. let l = low y in ⊎_elim (λ e. omega arith) (λ e. omega arith) (s.each y)) (s.sound x h)))
    (λ h. omega arith)

-- ---- one mark

settled-out : (v : ℕ) → v < 3 → settled v ≡ 0
unfolding settled
settled-out v l = rw (lt-ltb v 3 l)

settled-stays : (v : ℕ) → 2 < v → settled v ≡ v - 2
unfolding settled
settled-stays v l = rw (le-ltb v 3 l)

-- inside from .. to, or outside
pub where-cases : {C : Type 0} (from to x : ℕ) → (from ≤ x → x < to → C) → ((x < from) ⊎ (to ≤ x) → C) → C
where-cases from to x f g =
    by_cases (dec_le from x) (λ a. by_cases (dec_lt x to) (λ b. f a b) (λ b. g (inr (omega arith)))) (λ a. g (inl (omega arith)))

-- ---- the loop that settles: nodes before i are

module _ (from : ℕ) (old : List ℕ) where
  pub settling-start : Settling from from old old false
  settling-start = record {
    long = refl;
    inside = λ x a b. absurd (omega arith);
    outside = λ x o. refl;
    some = λ e. absurd (false≢true e);
    none = λ e x a b. absurd (omega arith);
  }

  module _ (i : ℕ) (ms : List ℕ) (changed : Bool) (s : Settling from i old ms changed) (l : from ≤ i) (h : i < length ms) where
    settling-at : get_or ms i 0 ≡ get_or old i 0
    settling-at = s.outside i (inr (omega arith))

    -- the next: `now` says whether some node went out, with this one
    pub settling-next : (now : Bool) → (now ≡ true → (changed ≡ true) ⊎ (goes_out_lem (get_or ms i 0) ≡ true)) → (now ≡ false → (changed ≡ false) × (goes_out_lem (get_or ms i 0) ≡ false))
        → Settling from (i + 1) old (set ms i (settled (get_or ms i 0))) now
    settling-next now a b = record {
      long = length-set ms i (settled (get_or ms i 0)) ∙ s.long;
      inside = split-set (λ x v. from ≤ x → x < i + 1 → v ≡ settled (get_or old x 0)) ms i (settled (get_or ms i 0)) h
          (λ f t. ap settled settling-at) (λ x n f t. s.inside x f (omega arith));
      outside = split-set (λ x v. (x < from) ⊎ (i + 1 ≤ x) → v ≡ get_or old x 0) ms i (settled (get_or ms i 0)) h
          (λ o. absurd (⊎_elim (λ t. omega arith) (λ t. omega arith) o)) (λ x n o. s.outside x (⊎_elim (λ t. inl t) (λ t. inr (omega arith)) o));
      some = λ e. ⊎_elim
          (λ c. let k = s.some c in (k.0, k.1, omega (arith, k.2), k.3))
          (λ g. (i, l, omega arith, ap goes_out_lem (sym settling-at) ∙ g))
          (a e);
      none = λ e x f t. by_cases (ℕ_discrete x i)
          (λ q. ap (λ (j : ℕ). goes_out_lem (get_or old j 0)) q ∙ ap goes_out_lem (sym settling-at) ∙ (b e).1)
          (λ q. s.none (b e).0 x f (omega arith));
    }

-- ---- settling after marking: marked nodes have their marks back, others are out

module _ (E : ℕ → ℕ → Type 0) (b ms new : List ℕ) (from to : ℕ) (changed : Bool) (low : (x : ℕ) → get_or b x 0 ≤ 2)
    (m : Marking E b ms) (s : Settling from to ms new changed) (out : (x : ℕ) → (x < from) ⊎ (to ≤ x) → get_or ms x 0 ≡ get_or b x 0) where
  pub back-each : (x : ℕ) → (get_or new x 0 ≡ 0) ⊎ (get_or new x 0 ≡ get_or b x 0)
  back-each x =
      where-cases from to x
      (λ f t. ⊎_elim
      (λ e. let k = low x in inl (s.inside x f t ∙ settled-out (get_or ms x 0) (omega arith)))
      (λ e. let k = settled-stays (get_or ms x 0) (omega arith) in inr (s.inside x f t ∙ k ∙ omega arith))
      (m.each x))
      (λ o. inr (s.outside x o ∙ out x o))

  pub back-stays : (x : ℕ) → 2 < get_or ms x 0 → 0 < get_or new x 0
  back-stays x l =
      where-cases from to x
      (λ f t. let k = settled-stays (get_or ms x 0) l in let i = s.inside x f t in omega arith)
      (λ o. let e = s.outside x o in omega arith)

  pub back-less : changed ≡ true → sum new < sum b
  unfolding goes_out_lem
  back-less e =
      let (x, f, t, g) = s.some e in
      let k = eqb-true (get_or ms x 0) 2 g in
      let gone : get_or new x 0 ≡ 0 = s.inside x f t ∙ settled-out (get_or ms x 0) (omega arith) in
      sum_lt new b (s.long ∙ m.long) (λ z. ⊎_elim (λ q. omega arith) (λ q. omega arith) (back-each z)) x
      (⊎_elim (λ q. omega arith) (λ q. absurd (omega (arith, q.0, q.1))) (m.each x))

-- ---- pruning, one round after another

module _ (E : ℕ → ℕ → Type 0) where
  pub pruned-start : (ms : List ℕ) → Pruned E ms ms
  pruned-start ms = record { long = refl; each = λ x. inr refl; keeps = λ z w h. h }

  pub pruned-then : (old mid new : List ℕ) → Pruned E old mid → Pruned E mid new → Pruned E old new
  pruned-then old mid new p q = record {
    long = q.long ∙ p.long;
    each = λ x. ⊎_elim (λ e. inl e) (λ e. ⊎_elim (λ k. inl (e ∙ k)) (λ k. inr (e ∙ k)) (p.each x)) (q.each x);
    keeps = λ z w h. q.keeps z w (p.keeps z w h);
  }

  pub pruned-sum : (old new : List ℕ) → Pruned E old new → sum new ≤ sum old
  pruned-sum old new p = sum-le new old p.long (λ x. ⊎_elim (λ e. omega arith) (λ e. omega arith) (p.each x))

-- ---- marking until nothing is new

module _ (E : ℕ → ℕ → Type 0) (b : List ℕ) where
  marking-more : (ms : List ℕ) → Marking E b ms → (x : ℕ) → get_or b x 0 ≤ get_or ms x 0
  marking-more ms m x = ⊎_elim (λ e. omega arith) (λ e. omega arith) (m.each x)

  -- the marks are at most 4
  pub marking-sum : (ms : List ℕ) → ((x : ℕ) → get_or b x 0 ≤ 2) → Marking E b ms → sum ms ≤ 4 * length b
  marking-sum ms low m =
      let k = sum-most ms (λ x. let h = low x in ⊎_elim (λ e. omega arith) (λ e. omega arith) (m.each x)) in
      omega (arith, m.long)

  pub stable : (ms new : List ℕ) → Marking E b ms → Marking E b new → Round E ms new false → Stable E b new
  stable ms new m k r = record { marking = k; closed = λ x y e h l. r.closed x y e (r.still refl y h) (omega (arith, marking-more ms m x)) }

-- ---- solving

module _ (E : ℕ → ℕ → Type 0) (b ms new : List ℕ) (changed : Bool) (low : (x : ℕ) → get_or b x 0 ≤ 2) (k : Stable E b ms) (s : Settling 0 (length ms) ms new changed) where
  m : Marking E b ms
  m = k.marking

  -- from an accepting node of a walk back along it
  back-along : (z : ℕ → ℕ) → Walk E z → ((i : ℕ) → 0 < get_or b (z i) 0) → (d i j : ℕ) → j ≡ i + suc d → 1 < get_or ms (z j) 0 → 2 < get_or ms (z i) 0
  back-along z w h zero i j e l = let q : j ≡ suc i = omega arith in k.closed (z i) (z (suc i)) (w i) (rw q at l) (h i)
  back-along z w h (suc d) i j e l = let q = back-along z w h d (suc i) j (omega arith) l in k.closed (z i) (z (suc i)) (w i) (omega arith) (h i)

  out : (x : ℕ) → (x < 0) ⊎ (length ms ≤ x) → get_or ms x 0 ≡ get_or b x 0
  out x o =
      ⊎_elim (λ l. absurd (omega arith))
      (λ l. let e = m.long in get_or-eq_default ms 0 {n = x} l ∙ sym (get_or-eq_default b 0 {n = x} (omega arith)))
      o

  each : (x : ℕ) → (get_or new x 0 ≡ 0) ⊎ (get_or new x 0 ≡ get_or b x 0)
  each = back-each E b ms new 0 (length ms) changed low m s out

  stays : (x : ℕ) → 2 < get_or ms x 0 → 0 < get_or new x 0
  stays = back-stays E b ms new 0 (length ms) changed low m s out

  keeps : (z : ℕ → ℕ) → Walk E z → ((i : ℕ) → 0 < get_or b (z i) 0) → ((i : ℕ) → (j : ℕ) × (i < j) × (1 < get_or b (z j) 0)) → (i : ℕ) → 0 < get_or new (z i) 0
  keeps z w h a i = let (j, l, c) = a i in stays (z i) (back-along z w h (j - suc i) i j (omega arith) (omega (arith, marking-more E b ms m (z j))))

  -- a node that is in is marked if a walk leads from it to an accepting one
  toward-marked : {x : ℕ} → 0 < get_or b x 0 → Toward E b x → 2 < get_or ms x 0
  toward-marked h (Toward.arrives y e l) = k.closed _ y e (omega (arith, marking-more E b ms m y)) h
  toward-marked h (Toward.passes y e i t) = k.closed _ y e (omega (arith, toward-marked i t)) h

  -- no accepting node went out
  accepting-stay : changed ≡ false → (y : ℕ) → 1 < get_or b y 0 → 1 < get_or new y 0
  unfolding goes_out_lem
  accepting-stay e y l =
      ⊎_elim
      (λ z. ⊎_elim
      (λ q. clash (eq-eqb (get_or ms y 0) 2 (omega (arith, low y))) (s.none e y (omega arith) (has-place ms y (omega arith))))
      (λ q. absurd (omega (arith, stays y (omega (arith, q.0)))))
      (m.each y))
      (λ q. omega arith)
      (each y)

  -- so the walks to them go on along nodes that are left
  toward-left : changed ≡ false → {x : ℕ} → Toward E b x → Toward E new x
  toward-left e (Toward.arrives y d l) = Toward.arrives y d (accepting-stay e y l)
  toward-left e (Toward.passes y d h t) = Toward.passes y d (stays y (toward-marked h t)) (toward-left e t)

  -- a node that is left was marked
  left-toward : (x : ℕ) → 0 < get_or new x 0 → Toward E b x
  left-toward x h =
      ⊎_elim
      (λ q. let r = low x in let i = has-place new x h in
      let z = s.inside x (omega arith) (omega (arith, s.long)) ∙ settled-out (get_or ms x 0) (omega arith) in absurd (omega arith))
      (λ q. q.2)
      (m.each x)

  pub solve-round : SolveRound E b new changed
  solve-round = record {
    long = s.long ∙ m.long;
    each = each;
    sound = λ e x h. toward-left e (left-toward x h);
    keeps = keeps;
    less = back-less E b ms new 0 (length ms) changed low m s out;
  }

-- rounds before the last: what `Solved` says but that all is sound
pub record Kept (E : ℕ → ℕ → Type 0) (old new : List ℕ) : Type 0 where
  pub long : length new ≡ length old
  pub each : (x : ℕ) → (get_or new x 0 ≡ 0) ⊎ (get_or new x 0 ≡ get_or old x 0)
  pub keeps : (z : ℕ → ℕ) → Walk E z → ((i : ℕ) → 0 < get_or old (z i) 0) → ((i : ℕ) → (j : ℕ) × (i < j) × (1 < get_or old (z j) 0)) → (i : ℕ) → 0 < get_or new (z i) 0

module _ (E : ℕ → ℕ → Type 0) where
  pub kept-start : (ms : List ℕ) → Kept E ms ms
  kept-start ms = record { long = refl; each = λ x. inr refl; keeps = λ z w h a. h }

  pub kept_low : (old ms : List ℕ) → ((x : ℕ) → get_or old x 0 ≤ 2) → Kept E old ms → (x : ℕ) → get_or ms x 0 ≤ 2
  kept_low old ms low t x = let l = low x in ⊎_elim (λ e. omega arith) (λ e. omega arith) (t.each x)

  pub kept_then : (old mid new : List ℕ) (changed : Bool) → Kept E old mid → SolveRound E mid new changed → Kept E old new
  kept_then old mid new changed t r = record {
    long = r.long ∙ t.long;
    each = λ x. ⊎_elim (λ e. inl e) (λ e. ⊎_elim (λ k. inl (e ∙ k)) (λ k. inr (e ∙ k)) (t.each x)) (r.each x);
    keeps = λ z w h a. let g = t.keeps z w h a in
        r.keeps z w g (λ i. let (j, l, c) = a i in (j, l, ⊎_elim (λ e. absurd (omega (arith, g j))) (λ e. omega arith) (t.each (z j))));
  }

  pub solved : (old mid new : List ℕ) → Kept E old mid → SolveRound E mid new false → Solved E old new
  solved old mid new t r = let q = kept_then old mid new false t r in record { long = q.long; each = q.each; sound = r.sound refl; keeps = q.keeps }
