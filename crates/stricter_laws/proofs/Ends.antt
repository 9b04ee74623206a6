-- The laws of dead ends: nodes go out from which no edge leads to a node that is in.
use mathlib.Core.Path.{◌≡◌, refl, sym, subst, ◌∙◌}
use mathlib.Core.Logic.{◌⊎◌, inl, inr, ⊎_elim}
use mathlib.Core.Bool.{Bool}
use mathlib.Core.List.{List}
use Prim.Native.Nat.{ℕ, suc, ◌≤◌, ◌<◌}
use native.Mathlib.Omega.{arith}
use lib.ListN.{length, get_or, set, length-set}
use Rattle.graph_walks.proofs.Sums.{split-set}
use Rattle.stricter_spec.specs.Rounds.{Stuck, Narrowed}
use Rattle.stricter_laws.specs.Parts.{Thinned}

module _ {E : ℕ → ℕ → Type 0} where
  pub thinned-start : (ms : List ℕ) → Thinned E ms ms
  thinned-start ms = record { long = refl; each = λ x. inr refl; keeps = λ z w h. h }

  pub thinned-then : {old ms new : List ℕ} → Thinned E old ms → Thinned E ms new → Thinned E old new
  thinned-then f g = record {
    long = g.long ∙ f.long;
    each = λ x. ⊎_elim (λ e. inl e) (λ e. ⊎_elim (λ d. inl (e ∙ d)) (λ d. inr (e ∙ d)) (f.each x)) (g.each x);
    keeps = λ z w h. g.keeps z w (f.keeps z w h);
  }

  -- node x, on no endless walk
  pub thinned-one : {F : ℕ → ℕ → Type 0} {x : ℕ} {ms : List ℕ} → x < length ms → Stuck E F 1 ms x → Thinned E ms (set ms x 0)
  thinned-one {x = x} {ms = ms} l s = record {
    long = length-set ms x 0;
    each = split-set (λ y v. (v ≡ 0) ⊎ (v ≡ get_or ms y 0)) ms x 0 l (inl refl) (λ y n. inr refl);
    keeps = λ z w h i. split-set (λ y v. y ≡ z i → 0 < v) ms x 0 l
        (λ q. let e : E x (z (suc i)) = subst (λ (n : ℕ). E n (z (suc i))) (sym q) (w i) in
        absurd (off (s.passes (z (suc i)) e) (h (suc i))))
        (λ y n q. subst (λ (k : ℕ). 0 < get_or ms k 0) (sym q) (h i))
        (z i) refl;
  }
    where
      off : {v : ℕ} → v < 1 → 0 < v → ⊥
      off a b = omega arith

  -- nothing comes in
  pub thinned-sub : {old new : List ℕ} → Thinned E old new → (x : ℕ) → 0 < get_or new x 0 → 0 < get_or old x 0
  thinned-sub t x h = ⊎_elim (λ e. absurd (omega arith)) (λ e. omega arith) (t.each x)

  -- what is left
  pub ends-narrowed : (F : Bool → ℕ → ℕ → ℕ → Type 0) (components : Bool → ℕ) {old new : List ℕ} → ((x : ℕ) → get_or old x 0 ≤ 1)
      → Thinned E old new → Narrowed E F components old new
  ends-narrowed F components low t = record {
    long = t.long;
    low = λ x. let l = low x in ⊎_elim (λ e. omega arith) (λ e. omega arith) (t.each x);
    sub = thinned-sub t;
    keeps = λ z w h a. t.keeps z w h;
  }
