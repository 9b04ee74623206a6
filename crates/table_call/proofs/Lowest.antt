-- From marks to runs: the lowest marked number where a run may begin is the lowest where an accepting run begins.
use mathlib.Core.Path.{◌≡◌, refl, sym, ap, ◌∙◌}
use mathlib.Core.Bool.{true, false}
use mathlib.Core.List.{List, [], ◌∷◌}
use Prim.Native.Nat.{ℕ, ◌+◌, ◌*◌, ◌<◌}
use native.Mathlib.Omega.{arith}
use native.Mathlib.Nat.{zero-mul, zero-add}
use lib.Dec.{ltb}
use lib.ListN.{length, get_or}
use borrow.Author.Tests.{ltb-true, lt-ltb}
use Rattle.sets.specs.Masks.{bit}
use Rattle.sets.specs.Tests.{Set}
use Rattle.sets.proofs.Bools.{and_l, and_r, and_i, clash}
use Rattle.theory.specs.Code.{component_in, classes_in}
use Rattle.theory.specs.Macrostate.{begun}
use Rattle.table_runs.specs.Tracks.{TrackFrom, Tracked}
use Rattle.table_call.specs.Starts.{Begins, Earliest, Lowest, starts_at}

-- ---- examples

-- of the codes of rule F only 257 is initial: 0 lacks the initial state, the last has classes left
starts : starts_at (λ c. bit c 0) (0 ∷ 257 ∷ 17592186044673 ∷ []) (1 ∷ 1 ∷ 1 ∷ []) 0 ≡ false
unfolding starts_at begun component_in classes_in bit
starts = refl

starts-1 : starts_at (λ c. bit c 0) (0 ∷ 257 ∷ 17592186044673 ∷ []) (1 ∷ 1 ∷ 1 ∷ []) 1 ≡ true
unfolding starts_at begun component_in classes_in bit
starts-1 = refl

starts-2 : starts_at (λ c. bit c 0) (0 ∷ 257 ∷ 17592186044673 ∷ []) (1 ∷ 1 ∷ 1 ∷ []) 2 ≡ false
unfolding starts_at begun component_in classes_in bit
starts-2 = refl

-- and only where it is marked
starts-unmarked : starts_at (λ c. bit c 0) (0 ∷ 257 ∷ 17592186044673 ∷ []) (1 ∷ 0 ∷ 1 ∷ []) 1 ≡ false
unfolding starts_at begun component_in classes_in bit
starts-unmarked = refl

-- ---- from marks to runs

module _ (start : Set) (codes transitions lead cycle marks : List ℕ) (T : Tracked codes transitions lead cycle marks) where
  first-place : (m : ℕ) → 0 * length codes + m ≡ m
  first-place m = ap (λ (k : ℕ). k + m) (zero-mul (length codes)) ∙ zero-add m

  begins-of : (m : ℕ) → m < length codes → starts_at start codes marks m ≡ true → Begins start codes transitions lead cycle m
  unfolding starts_at
  begins-of m low e =
      let k : 0 < get_or marks m 0 = ltb-true 0 (get_or marks m 0) (and_l (ltb 0 (get_or marks m 0)) (begun start (get_or codes m 0)) e) in
      let b = and_r (ltb 0 (get_or marks m 0)) (begun start (get_or codes m 0)) e in
      let (x, f, t) : TrackFrom codes transitions lead cycle m = (T.marked 0 m (omega arith) low).0 (rw (first-place m) k) in
      (x, f, record { run = record { within = t.within; begins = ap (λ (k : ℕ). begun start (get_or codes k 0)) f ∙ b; moves = t.moves }; again = t.again })

  starts-of : (m : ℕ) → Begins start codes transitions lead cycle m → (m < length codes) × (starts_at start codes marks m ≡ true)
  unfolding starts_at
  starts-of m (x, f, a) =
      let low : m < length codes = rw (sym f) (a.run.within 0) in
      let k : 0 < get_or marks (0 * length codes + m) 0 = (T.marked 0 m (omega arith) low).1 (x, f, record { within = a.run.within; moves = a.run.moves; again = a.again }) in
      (low, and_i (lt-ltb 0 (get_or marks m 0) (rw (first-place m) at k)) (ap (λ (k : ℕ). begun start (get_or codes k 0)) (sym f) ∙ a.run.begins))

  pub earliest : (m : ℕ) → Lowest (length codes) (starts_at start codes marks) m → Earliest (length codes) (Begins start codes transitions lead cycle) m
  earliest m L = record {
    most = L.most;
    found = λ low. begins-of m low (L.found low);
    none = λ l k b. clash (starts-of l b).1 (L.none l (omega arith));
    within = λ l b. (starts-of l b).0;
  }
