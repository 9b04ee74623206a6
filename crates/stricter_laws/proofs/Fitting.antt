-- Tables and marks that fit, and the rows of numbers that do not stand for their core.
use mathlib.Core.Path.{◌≡◌, subst, ◌∙◌}
use mathlib.Core.Bool.{false}
use mathlib.Core.List.{List}
use Prim.Native.Nat.{ℕ, ◌+◌, ◌-◌, ◌*◌, ◌≤◌, ◌<◌}
use native.Mathlib.Omega.{arith}
use lib.ListN.{length, get_or}
use Rattle.sets.proofs.Bools.{clash}
use Rattle.stricter_spec.specs.Steps.{CoresFit, stands_in, OnlyCores}
use Rattle.stricter_laws.specs.Parts.{Ready}

-- other marks, as many
pub fits-same : {na nb : ℕ} {left right ms : List ℕ} (new : List ℕ) → length new ≡ length ms → CoresFit na nb left right ms → CoresFit na nb left right new
fits-same new e f = record {
  ascend_a = f.ascend_a;
  ascend_b = f.ascend_b;
  letters_b = f.letters_b;
  onto_a = f.onto_a;
  onto_b = f.onto_b;
  marked = e ∙ f.marked;
  few_a = f.few_a;
  few_b = f.few_b;
}

pub ready-same : {na nb : ℕ} {left right ms : List ℕ} (new : List ℕ) → length new ≡ length ms → Ready na nb left right ms → Ready na nb left right new
ready-same new e f = record { fits = fits-same new e f.fits; rows = f.rows }

module _ (codes : List ℕ) (nb : ℕ) where
  -- nothing came in
  pub only-sub : (ms new : List ℕ) → ((x : ℕ) → 0 < get_or new x 0 → 0 < get_or ms x 0) → OnlyCores codes nb ms → OnlyCores codes nb new
  only-sub ms new sub o i j l h = o i j l (sub (i * nb + j) h)

  -- the row of another number is out
  pub row_out : (ms : List ℕ) → OnlyCores codes nb ms → (i : ℕ) → stands_in codes i ≡ false → (x : ℕ) → i * nb ≤ x → x < i * nb + nb → get_or ms x 0 ≡ 0
  row_out ms o i s x a b =
      let e : x ≡ i * nb + (x - i * nb) = omega arith in
      out (get_or ms x 0) (λ h. clash (o i (x - i * nb) (omega arith) (subst (λ (n : ℕ). 0 < get_or ms n 0) e h)) s)
    where
      out : (v : ℕ) → (0 < v → ⊥) → v ≡ 0
      out v n = omega (arith, n)
