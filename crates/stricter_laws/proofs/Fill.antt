-- Elements are replaced one by one, upwards or downwards.
use mathlib.Core.Path.{◌≡◌, refl, ◌∙◌}
use mathlib.Core.Logic.{◌⊎◌, inl, inr, ⊎_elim, by_cases}
use mathlib.Core.List.{List}
use Prim.Native.Nat.{ℕ, ◌+◌, ◌≤◌, ◌<◌}
use native.Mathlib.Omega.{arith}
use native.Mathlib.Decide.{dec_lt}
use lib.ListN.{length, get_or, set, length-set}
use Rattle.graph_walks.proofs.Sums.{split-set}
use Rattle.stricter_laws.specs.Fill.{Filled}

pub filled-start : (f : ℕ → ℕ) (from : ℕ) (ms : List ℕ) → Filled f from from ms ms
filled-start f from ms = record { long = refl; inside = λ x a b. absurd (omega arith); outside = λ x o. refl }

pub filled_next : {f : ℕ → ℕ} {from k : ℕ} {old ms : List ℕ} (v : ℕ) → from ≤ k → k < length ms → Filled f from k old ms → v ≡ f k
    → Filled f from (k + 1) old (set ms k v)
filled_next {f = f} {from = from} {k = k} {old = old} {ms = ms} v a l h e = record {
  long = length-set ms k v ∙ h.long;
  inside = split-set (λ x w. from ≤ x → x < k + 1 → w ≡ f x) ms k v l (λ p q. e) (λ x n p q. h.inside x p (omega arith));
  outside = split-set (λ x w. (x < from) ⊎ (k + 1 ≤ x) → w ≡ get_or old x 0) ms k v l
      (λ o. absurd (⊎_elim (λ t. omega arith) (λ t. omega arith) o)) (λ x n o. h.outside x (⊎_elim (λ t. inl t) (λ t. inr (omega arith)) o));
}

pub filled-before : {f : ℕ → ℕ} (k : ℕ) {to : ℕ} {old ms : List ℕ} (v : ℕ) → k < to → k < length ms → Filled f (k + 1) to old ms → v ≡ f k
    → Filled f k to old (set ms k v)
filled-before {f = f} k {to = to} {old = old} {ms = ms} v a l h e = record {
  long = length-set ms k v ∙ h.long;
  inside = split-set (λ x w. k ≤ x → x < to → w ≡ f x) ms k v l (λ p q. e) (λ x n p q. h.inside x (omega arith) q);
  outside = split-set (λ x w. (x < k) ⊎ (to ≤ x) → w ≡ get_or old x 0) ms k v l
      (λ o. absurd (⊎_elim (λ t. omega arith) (λ t. omega arith) o)) (λ x n o. h.outside x (⊎_elim (λ t. inl (omega arith)) (λ t. inr t) o));
}

-- g says of the second part what f says of it
pub filled-then : {f g : ℕ → ℕ} {from mid to : ℕ} {old ms new : List ℕ} → from ≤ mid → mid ≤ to → Filled f from mid old ms → Filled g mid to ms new
    → ((x : ℕ) → mid ≤ x → x < to → g x ≡ f x) → Filled f from to old new
filled-then {mid = mid} a b h k e = record {
  long = k.long ∙ h.long;
  inside = λ x p q. by_cases (dec_lt x mid) (λ l. k.outside x (inl l) ∙ h.inside x p l) (λ l. k.inside x (omega arith) q ∙ e x (omega arith) q);
  outside = λ x o. ⊎_elim (λ t. k.outside x (inl (omega arith)) ∙ h.outside x (inl t)) (λ t. k.outside x (inr t) ∙ h.outside x (inr (omega arith))) o;
}

pub filled-same : (f : ℕ → ℕ) {g : ℕ → ℕ} {from to : ℕ} {old new : List ℕ} → Filled g from to old new → ((x : ℕ) → from ≤ x → x < to → g x ≡ f x) → Filled f from to old new
filled-same f k e = record { long = k.long; inside = λ x p q. k.inside x p q ∙ e x p q; outside = k.outside }
