-- One law of answers that depend on a file by its row and by what it is read as alone: where two files, or two readers of one file, agree in both,
-- the answers are equal. A preface and the reader of 01 are instances (Prefaces).
use Prim.Native.Nat.{ℕ, zero, suc}
use mathlib.Core.Path.{◌≡◌, refl, ap, ap₂, sym, ◌∙◌, subst}
use mathlib.Core.Bool.{true}
use mathlib.Core.List.{List, ◌++◌}
use mathlib.Core.Logic.{by_cases}
use native.Mathlib.Decide.{ℕ_discrete}
use Rattle.refusals.specs.Rows.{Check, first_row}
use Rattle.refusals.proofs.Rows.{numbered, first-left, first-right}

module _ {R : Type 0} (P : ℕ → R → Type 0) (alone : (k : ℕ) (r t : R) → P (suc k) r → P (suc k) t) where
  -- a row that refuses is all that counts
  refused-alike : (k : ℕ) (r t : R) → (k ≡ 0 → ⊥) → P k r → P k t
  refused-alike zero r t n h = absurd (n refl)
  refused-alike (suc k) r t n h = alone k r t h

-- an answer by a row and by what is read, where no other row follows
pub plain-alike : {R X : Type 0} (answer : ℕ → R → X) → ((k : ℕ) (u w : R) → answer (suc k) u ≡ answer (suc k) w)
    → {j k : ℕ} → j ≡ k → {r t : R} → (k ≡ 0 → r ≡ t) → answer j r ≡ answer k t
plain-alike answer alone {k = zero} e h = ap₂ answer e (h refl)
plain-alike answer alone {k = suc k} e {r} {t} h = ap (λ j. answer j r) e ∙ alone k r t

-- a file is read by the rows xs as r, a file by the rows ys as t; then come the rows rest
module _ {R : Type 0} (rest : R → List Check) (xs ys : List Check) (nx : numbered xs ≡ true) (ny : numbered ys ≡ true) (r t : R)
    (rows : first_row xs ≡ first_row ys) (read : first_row ys ≡ 0 → r ≡ t) where
  pub row-alike : first_row (xs ++ rest r) ≡ first_row (ys ++ rest t)
  row-alike =
      by_cases (ℕ_discrete (first_row ys) 0)
      (λ e. first-right xs (rest r) nx (rows ∙ e) ∙ ap (λ (u : R). first_row (rest u)) (read e) ∙ sym (first-right ys (rest t) ny e))
      (λ n. sym (first-left xs (rest r) (first_row ys) n (sym rows)) ∙ first-left ys (rest t) (first_row ys) n refl)

  -- what holds of an answer by row and rule
  pub holds-alike : (P : ℕ → R → Type 0) → ((k : ℕ) (u w : R) → P (suc k) u → P (suc k) w) → P (first_row (xs ++ rest r)) r → P (first_row (ys ++ rest t)) t
  holds-alike P alone h =
      let g : P (first_row (ys ++ rest t)) r = subst (λ (k : ℕ). P k r) row-alike h in
      by_cases (ℕ_discrete (first_row ys) 0)
      (λ e. subst (P (first_row (ys ++ rest t))) (read e) g)
      (λ n. refused-alike P alone (first_row (ys ++ rest t)) r t (λ z. n (first-left ys (rest t) (first_row ys) n refl ∙ z)) g)

  -- an answer by row and rule
  pub answer-alike : {X : Type 0} (answer : ℕ → R → X) → ((k : ℕ) (u w : R) → answer (suc k) u ≡ answer (suc k) w)
      → answer (first_row (xs ++ rest r)) r ≡ answer (first_row (ys ++ rest t)) t
  answer-alike answer alone = holds-alike (λ k u. answer (first_row (xs ++ rest r)) r ≡ answer k u) (λ k u w e. e ∙ alone k u w) refl
