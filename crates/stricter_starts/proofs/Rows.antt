-- Start pairs of one number.
use mathlib.Core.Path.{◌≡◌, sym, ap, ◌∙◌}
use mathlib.Core.Bool.{true, false, ◌&&◌}
use mathlib.Core.List.{List}
use Prim.Native.Nat.{ℕ, ◌+◌, ◌-◌, ◌*◌, ◌≤◌, ◌<◌}
use native.Mathlib.Omega.{arith}
use lib.ListN.{length, get_or}
use Rattle.sets.specs.Tests.{Set}
use Rattle.sets.proofs.Bools.{and_l, and_r, and_i, clash}
use Rattle.theory.specs.Macrostate.{begun}
use Rattle.slice_search.specs.Zeros.{Zeros}
use Rattle.slice_search.proofs.Eights.{over-next}
use Rattle.stricter_laws.specs.Tests.{starts_in}
use Rattle.stricter_laws.proofs.Sides.{starts-both}
use Rattle.stricter_spec.specs.Steps.{stands_in, OnlyCores}
use Rattle.stricter_starts.specs.Starts.{RowStart}

module _ (ca cb : List ℕ) (s t : Set) (marks : List ℕ) (i : ℕ) where
  abbrev row : ℕ
  row = i * length cb

  abbrev end : ℕ
  end = i * length cb + length cb

  row-node : (x : ℕ) → row ≤ x → x < end → x ≡ i * length cb + (x - row)
  row-node x a b = omega arith

  -- the two numbers of a pair in the row
  pub starts-row : (x : ℕ) → row ≤ x → x < end → starts_in ca cb s t x ≡ (begun s (get_or ca i 0) && begun t (get_or cb (x - row) 0))
  starts-row x a b = ap (starts_in ca cb s t) (row-node x a b) ∙ starts-both ca cb i (x - row) (omega arith) s t

  -- node y is out, or no start
  abbrev Lacks : ℕ → Type 0
  Lacks y = 0 < get_or marks y 0 → starts_in ca cb s t y ≡ true → ⊥

  -- none of the nodes from the row's first up to x
  abbrev pub NoneUp : ℕ → Type 0
  NoneUp x = (y : ℕ) → row ≤ y → y < x → Lacks y

  pub none-next : (x : ℕ) {r : ℕ} → row ≤ x → x < end → NoneUp x → begun t (get_or cb (x - row) 0) ≡ false → Zeros marks (x + 1) r → NoneUp r
  none-next x {r = r} a b n f =
      over-next marks Lacks (λ y e h. absurd (omega arith)) row x r n (λ h e. clash (and_r (begun s (get_or ca i 0)) _ (sym (starts-row x a b) ∙ e)) f)

  -- no run of A may begin at i, or i does not stand for its core
  pub no_start : OnlyCores ca (length cb) marks → (stands_in ca i && begun s (get_or ca i 0)) ≡ false → RowStart (starts_in ca cb s t) marks row end end
  no_start o f = record {
    within = omega arith;
    inside = λ l. absurd (omega arith);
    begins = λ l. absurd (omega arith);
    none = λ l x a b h e. clash (and_i (o i (x - row) (omega arith) (rw (row-node x a b) at h)) (and_l _ (begun t (get_or cb (x - row) 0)) (sym (starts-row x a b) ∙ e))) f;
  }

  pub found : (x : ℕ) → row ≤ x → x < end → 0 < get_or marks x 0 → begun s (get_or ca i 0) ≡ true → begun t (get_or cb (x - row) 0) ≡ true → RowStart (starts_in ca cb s t) marks row end x
  found x a b h p q = record { within = omega arith; inside = λ l. h; begins = λ l. starts-row x a b ∙ and_i p q; none = λ l. absurd (omega arith) }
