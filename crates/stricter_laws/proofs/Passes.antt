-- Passes over the nodes, one after another until none waits.
use mathlib.Core.Path.{◌≡◌, refl, sym, ap, subst, ◌∙◌}
use mathlib.Core.Logic.{◌⊎◌, inl, inr, ⊎_elim, by_cases}
use mathlib.Core.Bool.{Bool, true, false, ◌||◌, true≢false, false≢true, or-true}
use mathlib.Core.List.{List, [], ◌∷◌}
use Prim.Native.Nat.{ℕ, suc, ◌+◌, ◌*◌, ◌≤◌, ◌<◌}
use native.Mathlib.Omega.{arith}
use native.Mathlib.Decide.{ℕ_discrete, dec_lt}
use lib.ListN.{length, get_or, set, length-set, get_or-eq_default}
use lib.Seq.{get_or-set_same, get_or-set_other}
use Rattle.sets.specs.Lists.{sum}
use Rattle.sets.proofs.Bools.{or_cases, or-fl, or-fr}
use Rattle.graph_walks.proofs.Sums.{has-place, sum_lt, sum-le, split-set}
use Rattle.stricter_laws.specs.Forest.{Tried, Cleared, NoneWaits, Forest, Explored, Passed, Exhausted}
use Rattle.stricter_laws.proofs.Forest.{met-most, tried-more, tried-within, tried_same, forest-start, forest-tried, forest-done}

-- ---- nothing is met: the nodes below x are done

pub record Clearing (x : ℕ) (old new : List ℕ) : Type 0 where
  pub long : length new ≡ length old
  pub each : (y : ℕ) → y < x → ((get_or old y 0 ≡ 0) × (get_or new y 0 ≡ 0)) ⊎ ((0 < get_or old y 0) × (get_or new y 0 ≡ 1))
  pub rest : (y : ℕ) → x ≤ y → get_or new y 0 ≡ get_or old y 0

pub clearing-start : (ms : List ℕ) → Clearing 0 ms ms
clearing-start ms = record { long = refl; each = λ y l. absurd (omega arith); rest = λ y l. refl }

-- nodes that are out
pub clearing-over : {x : ℕ} (r : ℕ) {old ms : List ℕ} → x ≤ r → ((y : ℕ) → x ≤ y → y < r → get_or ms y 0 ≡ 0) → Clearing x old ms → Clearing r old ms
clearing-over {x = x} r o z c = record {
  long = c.long;
  each = λ y l. by_cases (dec_lt y x) (λ h. c.each y h) (λ h. let e = z y (omega arith) l in inl (sym (c.rest y (omega arith)) ∙ e, e));
  rest = λ y l. c.rest y (omega arith);
}

pub clearing-set : {x : ℕ} {old ms : List ℕ} → 0 < get_or ms x 0 → Clearing x old ms → Clearing (x + 1) old (set ms x 1)
clearing-set {x = x} {old = old} {ms = ms} l c =
    let place = has-place ms x l in
    record {
      long = length-set ms x 1 ∙ c.long;
      each = λ y k. by_cases (ℕ_discrete y x)
          (λ e. let h = c.rest x (omega arith) in inr (subst (λ (z : ℕ). 0 < get_or old z 0) (sym e) (omega arith), ap (λ (z : ℕ). get_or (set ms x 1) z 0) e ∙ get_or-set_same ms x 1 0 place))
          (λ n. let f = get_or-set_other ms x y 1 0 n in ⊎_elim (λ h. inl (h.0, f ∙ h.1)) (λ h. inr (h.0, f ∙ h.1)) (c.each y (omega arith)));
      rest = λ y k. get_or-set_other ms x y 1 0 (λ e. omega arith) ∙ c.rest y (omega arith);
    }

pub clearing-end : {x : ℕ} {old new : List ℕ} → length new ≤ x → Clearing x old new → Cleared old new
clearing-end {x = x} {new = new} l c = record {
  long = c.long;
  each = λ y. by_cases (dec_lt y x) (λ h. c.each y h)
      (λ h. let e = get_or-eq_default new 0 {n = y} (omega arith) in inl (sym (c.rest y (omega arith)) ∙ e, e));
}

-- ---- passes until none waits

pub record Passing (S : ℕ → ℕ → ℕ → Type 0) (kind : ℕ → ℕ) (old new : List ℕ) : Type 0 where
  pub long : length new ≡ length old
  pub more : (x : ℕ) → get_or old x 0 ≤ get_or new x 0
  pub within : (x : ℕ) → 0 < get_or new x 0 → 0 < get_or old x 0
  pub forest : (o : ℕ) → Forest S kind o old → Forest S kind o new

module _ {S : ℕ → ℕ → ℕ → Type 0} {kind : ℕ → ℕ} where
  pub passing-start : (ms : List ℕ) → Passing S kind ms ms
  passing-start ms = record { long = refl; more = λ x. omega arith; within = λ x l. l; forest = λ o f. f }

  pub passing-next : {old ms new : List ℕ} {from to : ℕ} {changed : Bool} → Passing S kind old ms → Passed S kind from to ms new changed → Passing S kind old new
  passing-next p q = record {
    long = q.long ∙ p.long;
    more = λ x. let h = p.more x in let k = q.more x in omega arith;
    within = λ x l. p.within x (q.within x l);
    forest = λ o f. q.forest o (p.forest o f);
  }

  pub exhausted : {old ms new : List ℕ} → Passing S kind old ms → Passed S kind 0 (length old) ms new false → Exhausted S kind old new
  exhausted {new = new} p q = let n = passing-next p q in let h = q.still refl in record {
    long = n.long;
    more = n.more;
    within = n.within;
    forest = n.forest;
    all = λ x l. let place = has-place new x (omega arith) in
        subst (λ (ns : List ℕ). 128 ≤ get_or ns x 0) (sym h.0) (h.1 x (omega arith) (rw n.long at place) (subst (λ (ns : List ℕ). 1 < get_or ns x 0) h.0 l));
  }

  -- nodes none of which waits
  pub passed_over : (from to : ℕ) (ms : List ℕ) → NoneWaits ms from to → Passed S kind from to ms ms false
  passed_over from to ms h = record {
    long = refl;
    more = λ y. omega arith;
    within = λ y l. l;
    forest = λ o f. f;
    still = λ e. (refl, h);
    grown = λ e. absurd (false≢true e);
  }

  pub passed_start : (from : ℕ) (ms : List ℕ) → Passed S kind from from ms ms false
  passed_start from ms = passed_over from from ms (λ x a b l. absurd (omega arith))

  pub passed_then : {from mid to : ℕ} {old ms new : List ℕ} {a b : Bool} (now : Bool)
      → Passed S kind from mid old ms a → Passed S kind mid to ms new b → now ≡ (a || b) → Passed S kind from to old new now
  passed_then {mid = mid} {old = old} {ms = ms} {new = new} {a = a} {b = b} now p q e = record {
    long = q.long ∙ p.long;
    more = λ x. let h = p.more x in let k = q.more x in omega arith;
    within = λ x l. p.within x (q.within x l);
    forest = λ o f. q.forest o (p.forest o f);
    still = λ r. let h = p.still (or-fl a b (sym e ∙ r)) in let k = q.still (or-fr a b (sym e ∙ r)) in (
      k.0 ∙ h.0,
      λ x f t l. by_cases (dec_lt x mid) (λ g. h.1 x f g l)
          (λ g. subst (λ (ms : List ℕ). 128 ≤ get_or ms x 0) h.0 (k.1 x (omega arith) t (subst (λ (ms : List ℕ). 1 < get_or ms x 0) (sym h.0) l))),
    );
    grown = λ r. ⊎_elim
        (λ h. let k = p.grown h in let g = sum-le ms new (sym q.long) q.more in omega arith)
        (λ h. let k = q.grown h in let g = sum-le old ms (sym p.long) p.more in omega arith)
        (or_cases a b (sym e ∙ r));
  }

  -- a node or more that waited, and up to r none does
  pub passed-turn : {from x y : ℕ} (r : ℕ) {old ms new : List ℕ} {b : Bool} → Passed S kind from x old ms b → Passed S kind x y ms new true → NoneWaits new y r → Passed S kind from r old new true
  passed-turn {y = y} r {new = new} {b = b} p q h = passed_then true (passed_then true p q (sym (or-true b))) (passed_over y r new h) refl

module _ {S : ℕ → ℕ → ℕ → Type 0} {kind : ℕ → ℕ} (lettered : (x a y : ℕ) → S x a y → a < 16) (low : (x : ℕ) → kind x ≤ 3) where
  -- a node that waits: its steps are tried
  pub passed-visit : (x v : ℕ) {base : ℕ} {D : ℕ → Type 0} {ms ns : List ℕ} → v ≡ get_or ms x 0 → 1 < v → v < 128 → base ≡ 64 + kind x → ((a y : ℕ) → S x a y → D y) → Tried (S x) D base ms ns
      → Passed S kind x (x + 1) ms (set ns x (v + 128)) true
  passed-visit x v {base = base} {ms = ms} {ns = ns} e big small h all t =
      let two : 1 < base = omega arith in
      let here : get_or ns x 0 ≡ v = tried_same two t x (omega arith) ∙ sym e in
      let place : x < length ns = has-place ns x (omega arith) in
      let long : length (set ns x (v + 128)) ≡ length ms = length-set ns x (v + 128) ∙ t.long in
      let more : (y : ℕ) → get_or ms y 0 ≤ get_or (set ns x (v + 128)) y 0 =
      split-set (λ (z u : ℕ). get_or ms z 0 ≤ u) ns x (v + 128) place (omega arith) (λ j n. tried-more two t j) in
      record {
        long = long;
        more = more;
        within = split-set (λ (z u : ℕ). 0 < u → 0 < get_or ms z 0) ns x (v + 128) place (λ l. omega arith) (λ j n l. tried-within two t j l);
        forest = λ o f. forest-done x v (forest-tried x (lettered x) (low x) f (inr (h, omega arith)) t) here big small
            (λ a y s k. t.closed y (all a y s) (tried-within two t y k));
        still = λ r. absurd (true≢false r);
        grown = λ r. sum_lt ms (set ns x (v + 128)) (sym long) more x (let at = get_or-set_same ns x (v + 128) 0 place in omega arith);
      }

  -- ---- a whole search from o

  pub explored : (o : ℕ) {old ms ns new : List ℕ} {D : ℕ → Type 0} → ((a y : ℕ) → S o a y → D y) → Cleared old ms → Tried (S o) D 3 ms ns → Exhausted S kind ns new → Explored S kind o old new
  explored o {ms = ms} {new = new} all c t h =
      let f = h.forest o (forest-tried o (lettered o) (low o) (forest-start ms (λ x. ⊎_elim (λ e. omega (arith, e.1)) (λ e. omega (arith, e.1)) (c.each x)))
      (inl (refl, refl)) t) in
      let within : (x : ℕ) → 0 < get_or new x 0 → 0 < get_or ms x 0 = λ x l. tried-within (omega arith) t x (h.within x l) in
      record {
        same = record {
          long = h.long ∙ t.long ∙ c.long;
          within = λ x l. let k = within x l in ⊎_elim (λ e. absurd (omega (arith, e.1))) (λ e. e.0) (c.each x);
          kept = λ x l. let k = tried-more (omega arith) t x in let g = h.more x in ⊎_elim (λ e. absurd (omega (arith, e.0))) (λ e. omega (arith, e.1)) (c.each x);
        };
        back = λ x l. let (d, k, b) = f.back x l in (d, (let g = met-most new in omega arith), b);
        first = λ a y s l. let k = t.closed y (all a y s) (within y l) in let g = h.more y in omega arith;
        closed = λ x a y l s k. f.done x (h.all x l) a y s k;
      }

-- ---- bytes

pub sum-bytes : (ms : List ℕ) → ((x : ℕ) → get_or ms x 0 < 256) → sum ms ≤ 256 * length ms
unfolding sum
sum-bytes [] h = omega arith
sum-bytes (m ∷ ms) h = let ih = sum-bytes ms (λ x. h (suc x)) in omega (arith, h 0)
