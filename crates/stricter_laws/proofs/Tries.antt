-- The laws of sweeps: nodes are tried one after another, and those with a walk to an edge that spares are marked.
use mathlib.Core.Path.{◌≡◌, refl, sym, subst, ◌∙◌}
use mathlib.Core.Logic.{◌⊎◌, inl, inr, ⊎_elim, by_cases}
use mathlib.Core.Bool.{Bool, true, false, ◌||◌, or-false, true≢false, false≢true}
use mathlib.Core.List.{List, [], ◌∷◌}
use Prim.Native.Nat.{ℕ, suc, ◌+◌, ◌*◌, ◌≤◌, ◌<◌}
use native.Mathlib.Omega.{arith}
use native.Mathlib.Decide.{dec_lt}
use lib.ListN.{length, get_or, set, length-set}
use Rattle.sets.specs.Lists.{sum}
use Rattle.sets.proofs.Bools.{bif, or_cases, or-fl, or-fr}
use Rattle.graph_walks.proofs.Sums.{split-set, has-place, sum-set}
use Rattle.stricter_spec.specs.Steps.{OnlyCores}
use Rattle.stricter_spec.specs.Rounds.{Toward, Stuck, Leading, Marking, Tried, Swept}
use Rattle.stricter_laws.specs.Parts.{Begun}
use Rattle.stricter_laws.proofs.Fitting.{only-sub}

-- marks of at most 2
pub sum-most : (ms : List ℕ) → ((x : ℕ) → get_or ms x 0 ≤ 2) → sum ms ≤ 2 * length ms
unfolding sum
sum-most [] h = omega arith
sum-most (m ∷ ms) h = let ih = sum-most ms (λ x. h (suc x)) in omega (arith, h 0)

module _ {E F : ℕ → ℕ → Type 0} where
  -- ---- marking

  -- with more nodes in, the walks are there still
  pub toward-more : {ms : List ℕ} (ns : List ℕ) → ((x : ℕ) → 0 < get_or ms x 0 → 0 < get_or ns x 0) → {x : ℕ} → Toward E F ms x → Toward E F ns x
  toward-more ns h (Toward.spared y f l) = Toward.spared y f (h y l)
  toward-more {ms = ms} ns h (Toward.passes y e l t) = Toward.passes y e (h y l) (toward-more ns h t)

  pub marking-start : (ms : List ℕ) → Marking E F ms ms
  marking-start ms = record { long = refl; each = λ x. inl refl }

  module _ {base ms : List ℕ} (low : (x : ℕ) → get_or base x 0 ≤ 1) (m : Marking E F base ms) where
    pub marking-low : (x : ℕ) → get_or ms x 0 ≤ 2
    marking-low x = let l = low x in ⊎_elim (λ e. omega arith) (λ e. omega (arith, e.1)) (m.each x)

    pub marking-sub : (x : ℕ) → 0 < get_or ms x 0 → 0 < get_or base x 0
    marking-sub x h = ⊎_elim (λ e. omega arith) (λ e. omega (arith, e.0)) (m.each x)

    pub marking-in : (x : ℕ) → 0 < get_or base x 0 → 0 < get_or ms x 0
    marking-in x h = ⊎_elim (λ e. omega arith) (λ e. omega (arith, e.1)) (m.each x)

    -- a marked node has a walk
    pub marking-toward : (x : ℕ) → 2 ≤ get_or ms x 0 → Toward E F base x
    marking-toward x h = let l = low x in ⊎_elim (λ e. absurd (omega arith)) (λ e. e.2) (m.each x)

    pub marking-sum : sum ms ≤ 2 * length base
    marking-sum = let h = sum-most ms marking-low in omega (arith, m.long)

    -- one more node is marked
    pub marking-one : {x : ℕ} → get_or ms x 0 ≡ 1 → Leading E F 2 ms x true → Marking E F base (set ms x 2)
    marking-one {x = x} e g = record {
      long = length-set ms x 2 ∙ m.long;
      each = split-set (λ y v. (v ≡ get_or base y 0) ⊎ ((get_or base y 0 ≡ 1) × (v ≡ 2) × Toward E F base y)) ms x 2 (has-place ms x (omega arith))
          (inr (one, refl, toward)) (λ y n. m.each y);
    }
      where
        one : get_or base x 0 ≡ 1
        one = ⊎_elim (λ q. omega arith) (λ q. q.0) (m.each x)

        toward : Toward E F base x
        toward =
            ⊎_elim (λ t. Toward.spared t.0 t.1 (marking-sub t.0 (omega (arith, t.2))))
            (λ t. Toward.passes t.0 t.1 (marking-sub t.0 (omega (arith, t.2))) (marking-toward t.0 t.2))
            (g.yes refl)

  -- ---- nodes one after another

  -- no node between `from` and `to` is 1
  pub tried-none : (from to : ℕ) (ms : List ℕ) → ((x : ℕ) → from ≤ x → x < to → get_or ms x 0 ≡ 1 → ⊥) → Tried E F from to ms ms false
  tried-none from to ms n =
      record { long = refl; same = λ e. refl; stuck = λ e x a b h. absurd (n x a b h); grown = λ e. absurd (false≢true e); marking = λ base low m. m }

  -- node x is not 1, or stuck
  pub tried-stays : (x : ℕ) (ms : List ℕ) → (get_or ms x 0 ≡ 1 → Stuck E F 2 ms x) → Tried E F x (x + 1) ms ms false
  tried-stays x ms s = record {
    long = refl;
    same = λ e. refl;
    stuck = λ e y a b h. let q : x ≡ y = omega arith in subst (λ (n : ℕ). Stuck E F 2 ms n) q (s (subst (λ (n : ℕ). get_or ms n 0 ≡ 1) (sym q) h));
    grown = λ e. absurd (false≢true e);
    marking = λ base low m. m;
  }

  -- node x is marked
  pub tried-marks : {x : ℕ} {ms : List ℕ} → get_or ms x 0 ≡ 1 → Leading E F 2 ms x true → Tried E F x (x + 1) ms (set ms x 2) true
  tried-marks {x = x} {ms = ms} h g = record {
    long = length-set ms x 2;
    same = λ e. absurd (true≢false e);
    stuck = λ e. absurd (true≢false e);
    grown = λ e. let s = sum-set ms x 2 (has-place ms x (omega arith)) in omega arith;
    marking = λ base low m. marking-one low m h g;
  }

  pub tried_then : {from mid to : ℕ} {old ms new : List ℕ} {a b : Bool} (now : Bool) → Tried E F from mid old ms a → Tried E F mid to ms new b → now ≡ (a || b)
      → Tried E F from to old new now
  tried_then {mid = mid} {old = old} {new = new} {a = a} {b = b} now r q e = record {
    long = q.long ∙ r.long;
    same = λ f. q.same (or-fr a b (sym e ∙ f)) ∙ r.same (or-fl a b (sym e ∙ f));
    stuck = λ f x l h k. by_cases (dec_lt x mid)
        (λ t. r.stuck (or-fl a b (sym e ∙ f)) x l t k)
        (λ t. let s = r.same (or-fl a b (sym e ∙ f)) in
        subst (λ (n : List ℕ). Stuck E F 2 n x) s (q.stuck (or-fr a b (sym e ∙ f)) x (omega arith) h (subst (λ (n : List ℕ). get_or n x 0 ≡ 1) (sym s) k)));
    grown = λ t. bif a
        (λ f. bif b (λ g. omega (arith, r.grown f, q.grown g)) (λ g. subst (λ (n : List ℕ). sum old < sum n) (sym (q.same g)) (r.grown f)))
        (λ f. subst (λ (n : List ℕ). sum n < sum new) (r.same f) (q.grown (⊎_elim (λ g. absurd (true≢false (sym g ∙ f))) (λ g. g) (or_cases a b (sym e ∙ t)))));
    marking = λ base low m. q.marking base low (r.marking base low m);
  }

  -- ---- nodes that are out are skipped

  -- zeros from node x up to y
  pub tried-zeros : {from x : ℕ} (y : ℕ) {old ms : List ℕ} {changed : Bool} → Tried E F from x old ms changed → ((z : ℕ) → x ≤ z → z < y → get_or ms z 0 ≡ 0)
      → Tried E F from y old ms changed
  tried-zeros {x = x} y {ms = ms} {changed = changed} t o =
      tried_then changed t (tried-none x y ms (λ z a b h. let e = o z a b in omega arith)) (sym (or-false changed))

  -- then node y, at place j of its row
  pub tried-turn : {from x : ℕ} (y row j : ℕ) {old ms new : List ℕ} {a b : Bool} (now : Bool) → Tried E F from x old ms a → ((z : ℕ) → x ≤ z → z < y → get_or ms z 0 ≡ 0)
      → row + j ≡ y → Tried E F (row + j) (row + j + 1) ms new b → now ≡ (a || b) → Tried E F from (y + 1) old new now
  tried-turn y row j {ms = ms} {new = new} {b = b} now t o e q f =
      tried_then now (tried-zeros y t o) (subst (λ (n : ℕ). Tried E F n (n + 1) ms new b) e q) f

  -- ---- sweeps

  pub begun-only : {codes : List ℕ} {nb : ℕ} {ms : List ℕ} → Begun E F codes nb ms → OnlyCores codes nb ms
  begun-only {codes = codes} {nb = nb} {ms = ms} b = only-sub codes nb b.base ms (marking-sub b.low b.marking) b.cores

  pub begun-start : (codes : List ℕ) (nb : ℕ) (ms : List ℕ) → ((x : ℕ) → get_or ms x 0 ≤ 1) → OnlyCores codes nb ms → Begun E F codes nb ms
  begun-start codes nb ms low o = record { base = ms; low = low; cores = o; marking = marking-start ms }

  pub begun-next : {codes : List ℕ} {nb from to : ℕ} {ms new : List ℕ} {changed : Bool} → Tried E F from to ms new changed
      → Begun E F codes nb ms → Begun E F codes nb new
  begun-next t b = record { base = b.base; low = b.low; cores = b.cores; marking = t.marking b.base b.low b.marking }

  pub swept-end : {to : ℕ} {base ms new : List ℕ} → length base ≡ to → ((x : ℕ) → get_or base x 0 ≤ 1) → Marking E F base ms → Tried E F 0 to ms new false
      → Swept E F base new
  swept-end {base = base} {ms = ms} {new = new} e low m t =
      let k = t.marking base low m in
      let s : ms ≡ new = sym (t.same refl) in
      record {
        marking = k;
        stuck = λ x h. subst (λ (n : List ℕ). Stuck E F 2 n x) s
            (t.stuck refl x (omega arith) (let l = has-place new x (omega arith) in omega (arith, k.long)) (subst (λ (n : List ℕ). get_or n x 0 ≡ 1) (sym s) h));
      }
