-- Rows 1 to 7, by the tests that led there, and what a file that they pass has.
use Prim.Native.Nat.{ℕ, ◌+◌, ◌-◌, ◌<◌, ◌≤◌}
use mathlib.Core.Path.{◌≡◌, refl}
use mathlib.Core.Bool.{true, false, not}
use mathlib.Core.List.{List, []}
use borrow.Author.Tests.{ltb-false, lt-ltb, le-ltb, not-false}
use lib.ListN.{length}
use lib.Dec.{ltb}
use Rattle.refusals.specs.Rows.{first_row}
use Rattle.refusals.proofs.Rows.{numbered, first-left, first-right, first-parts, first-pass}
use Rattle.file_spec.specs.File.{tagged, head_of, clause_count, entry_count, clauses_of_lem, counts_of_lem, trailer}
use Rattle.file_spec.specs.Rows.{trailer_rows, layout_rows}
use Rattle.file_spec.specs.RuleRows.{number_rows, list_rows}
use Rattle.file_spec.proofs.Numbers.{Ranges, ranges}

pub numbers-numbered : (f : List ℕ) → numbered (number_rows (head_of f)) ≡ true
numbers-numbered f = unfold numbered number_rows in refl

pub trailer-numbered : (f : List ℕ) → numbered (trailer_rows f) ≡ true
trailer-numbered f = unfold numbered trailer_rows number_rows in refl

-- what rows 1 to 7 ask
pub record Placed (f : List ℕ) : Type 0 where
  pub long : 8 ≤ length f
  pub tag-ends : tagged f ≡ true
  pub ranges : Ranges (head_of f)
  pub fits : clause_count f + entry_count f ≤ length f - 8

module _ (f : List ℕ) where
  pub row-1 : length f < 8 → 1 ≡ first_row (trailer_rows f)
  row-1 l = unfold first_row trailer_rows in rw (lt-ltb _ _ l)

  module _ (long : 8 ≤ length f) where
    pub row-2 : tagged f ≡ false → 2 ≡ first_row (trailer_rows f)
    row-2 e = unfold first_row trailer_rows in rw (le-ltb _ _ long, e)

    module _ (e : tagged f ≡ true) where
      pub row-numbers : (k : ℕ) → (k ≡ 0 → ⊥) → k ≡ first_row (number_rows (head_of f)) → k ≡ first_row (trailer_rows f)
      row-numbers k n r = unfold first_row trailer_rows in rw (le-ltb _ _ long, e) (first-left (number_rows (head_of f)) _ k n r)

      module _ (r : first_row (number_rows (head_of f)) ≡ 0) where
        pub row-7 : length f - 8 < clause_count f + entry_count f → 7 ≡ first_row (trailer_rows f)
        unfolding first_row trailer_rows
        row-7 l = rw (le-ltb _ _ long, e, first-right (number_rows (head_of f)) _ (numbers-numbered f) r, lt-ltb _ _ l)

        pub pass-7 : clause_count f + entry_count f ≤ length f - 8 → 0 ≡ first_row (trailer_rows f)
        unfolding first_row trailer_rows
        pass-7 l = rw (le-ltb _ _ long, e, first-right (number_rows (head_of f)) _ (numbers-numbered f) r, le-ltb _ _ l)

  -- a file that passes
  pub placed : first_row (trailer_rows f) ≡ 0 → Placed f
  unfolding trailer_rows
  placed p =
      let r₁ = first-pass (ltb (length f) 8) _ _ p in
      let r₂ = first-pass (not (tagged f)) _ _ r₁.1 in
      let parts = first-parts (number_rows (head_of f)) _ (numbers-numbered f) r₂.1 in
      let r₇ = first-pass (ltb (length f - 8) (clause_count f + entry_count f)) _ [] parts.1 in
      record {
        long = ltb-false (length f) 8 r₁.0;
        tag-ends = not-false (tagged f) r₂.0;
        ranges = ranges (head_of f) parts.0;
        fits = ltb-false (length f - 8) (clause_count f + entry_count f) r₇.0;
      }

  pub trailer-numbers : first_row (trailer_rows f) ≡ 0 → first_row (number_rows (head_of f)) ≡ 0
  unfolding trailer_rows
  trailer-numbers p =
      let r₁ = first-pass (ltb (length f) 8) _ _ p in
      let r₂ = first-pass (not (tagged f)) _ _ r₁.1 in
      (first-parts (number_rows (head_of f)) _ (numbers-numbered f) r₂.1).0

  pub rows-trailer : (k : ℕ) → (k ≡ 0 → ⊥) → k ≡ first_row (trailer_rows f) → k ≡ first_row (layout_rows f)
  rows-trailer k n e = unfold layout_rows in first-left (trailer_rows f) _ k n e

  pub rows-lists : first_row (trailer_rows f) ≡ 0 → first_row (layout_rows f) ≡ first_row (list_rows (trailer f 0) (counts_of_lem f) (clauses_of_lem f))
  rows-lists e = unfold layout_rows in first-right (trailer_rows f) _ (trailer-numbered f) e
