-- Rows 3 to 6, by the tests that led there, and what numbers that they pass have.
use Prim.Native.Nat.{◌*◌, ◌^◌, ◌<◌, ◌≤◌}
use mathlib.Core.Path.{◌≡◌}
use native.Mathlib.Nat.{mul-le-mul}
use borrow.Author.Tests.{ltb-false, leb-false, lt-ltb, le-ltb, le-leb, lt-leb}
use lib.Dec.{leb, ltb}
use Rattle.refusals.specs.Rows.{first_row}
use Rattle.sets.proofs.Bools.{or-fl, or-fr}
use Rattle.refusals.proofs.Rows.{first-pass}
use Rattle.rule_entries.specs.declared.Head.{Head}
use Rattle.file_spec.specs.RuleRows.{number_rows, names_beyond, outside}

-- what rows 3 to 6 ask
pub record Ranges (h : Head) : Type 0 where
  pub some_state : 1 ≤ h.n
  pub few_states : h.n ≤ 8
  pub some_letter : 1 ≤ h.s
  pub few_letters : h.s ≤ 16
  pub initial_state : h.initial < h.n
  pub accepting_states : h.accepting < 2 ^ h.n
  pub few-entries : h.n * h.s ≤ 128

module _ (h : Head) where
  pub under-3 : h.n < 1 → 3 ≡ first_row (number_rows h)
  under-3 l = unfold first_row number_rows in rw (lt-ltb _ _ l)

  pub over-3 : 1 ≤ h.n → 8 < h.n → 3 ≡ first_row (number_rows h)
  over-3 a l = unfold first_row number_rows in rw (le-ltb _ _ a, lt-ltb _ _ l)

  module _ (a : 1 ≤ h.n) (b : h.n ≤ 8) where
    pub under-4 : h.s < 1 → 4 ≡ first_row (number_rows h)
    under-4 l = unfold first_row number_rows in rw (le-ltb _ _ a, le-ltb _ _ b, lt-ltb _ _ l)

    pub over-4 : 1 ≤ h.s → 16 < h.s → 4 ≡ first_row (number_rows h)
    over-4 d l = unfold first_row number_rows in rw (le-ltb _ _ a, le-ltb _ _ b, le-ltb _ _ d, lt-ltb _ _ l)

    module _ (d : 1 ≤ h.s) (e : h.s ≤ 16) where
      pub row-5 : h.n ≤ h.initial → 5 ≡ first_row (number_rows h)
      row-5 l = unfold first_row number_rows in rw (le-ltb _ _ a, le-ltb _ _ b, le-ltb _ _ d, le-ltb _ _ e, le-leb _ _ l)

      pub row-6 : h.initial < h.n → 2 ^ h.n ≤ h.accepting → 6 ≡ first_row (number_rows h)
      unfolding first_row number_rows
      row-6 g l = rw (le-ltb _ _ a, le-ltb _ _ b, le-ltb _ _ d, le-ltb _ _ e, lt-leb _ _ g, le-leb _ _ l)

      pub pass-6 : h.initial < h.n → h.accepting < 2 ^ h.n → 0 ≡ first_row (number_rows h)
      unfolding first_row number_rows
      pass-6 g l = rw (le-ltb _ _ a, le-ltb _ _ b, le-ltb _ _ d, le-ltb _ _ e, lt-leb _ _ g, lt-leb _ _ l)

  -- numbers that pass
  pub ranges : first_row (number_rows h) ≡ 0 → Ranges h
  unfolding number_rows
  ranges p =
      let r₃ = first-pass (outside 1 8 h.n) _ _ p in
      let r₄ = first-pass (outside 1 16 h.s) _ _ r₃.1 in
      let r₅ = first-pass (leb h.n h.initial) _ _ r₄.1 in
      let r₆ = first-pass (names_beyond h.n h.accepting) _ _ r₅.1 in
      let high = ltb-false 8 h.n (or-fr (ltb h.n 1) (ltb 8 h.n) r₃.0) in
      let high-s = ltb-false 16 h.s (or-fr (ltb h.s 1) (ltb 16 h.s) r₄.0) in
      record {
        some_state = ltb-false h.n 1 (or-fl (ltb h.n 1) (ltb 8 h.n) r₃.0);
        few_states = high;
        some_letter = ltb-false h.s 1 (or-fl (ltb h.s 1) (ltb 16 h.s) r₄.0);
        few_letters = high-s;
        initial_state = leb-false h.n h.initial r₅.0;
        accepting_states = leb-false (2 ^ h.n) h.accepting r₆.0;
        few-entries = mul-le-mul high high-s;
      }
