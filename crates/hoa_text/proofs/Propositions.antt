-- The fewest propositions, by the number of letters.
use mathlib.Core.Path.{◌≡◌, sym, ◌∙◌}
use Prim.Native.Nat.{ℕ, ◌^◌, ◌≤◌, ◌<◌}
use native.Mathlib.Omega.{arith}
use lib.Dec.{leb}
use borrow.Author.Tests.{le-leb, lt-leb}
use Rattle.sets.specs.Tests.{Set}
use Rattle.sets.proofs.Tests.{first-yes, first-no}
use Rattle.hoa_spec.specs.Lines.{propositions}

module _ (s : ℕ) where
  -- b propositions tell the letters apart
  abbrev apart : Set
  apart b = leb s (2 ^ b)

  pub none_needed : s ≤ 1 → 0 ≡ propositions s
  unfolding propositions
  none_needed h = sym (first-yes 4 apart 0 (le-leb s 1 h))

  pub one-needed : 1 < s → s ≤ 2 → 1 ≡ propositions s
  unfolding propositions
  one-needed l h = sym (first-no 4 apart 0 (lt-leb s 1 l) ∙ first-yes 3 apart 1 (le-leb s 2 h))

  pub two-needed : 2 < s → s ≤ 4 → 2 ≡ propositions s
  unfolding propositions
  two-needed l h = sym (first-no 4 apart 0 (lt-leb s 1 (omega arith)) ∙ first-no 3 apart 1 (lt-leb s 2 l) ∙ first-yes 2 apart 2 (le-leb s 4 h))

  pub three-needed : 4 < s → s ≤ 8 → 3 ≡ propositions s
  unfolding propositions
  three-needed l h =
      sym (first-no 4 apart 0 (lt-leb s 1 (omega arith)) ∙ first-no 3 apart 1 (lt-leb s 2 (omega arith)) ∙ first-no 2 apart 2 (lt-leb s 4 l) ∙ first-yes 1 apart 3 (le-leb s 8 h))

  pub four-needed : 8 < s → s ≤ 16 → 4 ≡ propositions s
  unfolding propositions
  four-needed l h =
      sym (first-no 4 apart 0 (lt-leb s 1 (omega arith)) ∙ first-no 3 apart 1 (lt-leb s 2 (omega arith)) ∙ first-no 2 apart 2 (lt-leb s 4 (omega arith)) ∙ first-no 1 apart 3 (lt-leb s 8 l)
      ∙ first-yes 0 apart 4 (le-leb s 16 h))
