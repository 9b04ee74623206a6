-- Row 15, condition by condition.
use mathlib.Core.Path.{◌≡◌, refl, sym, ◌∙◌}
use mathlib.Core.Bool.{Bool, true, false, not, ◌||◌, cond}
use mathlib.Core.List.Memᴰ
use mathlib.Core.List.{List}
use mathlib.Core.Logic.{◌⊎◌, inl, inr, ⊎_elim}
use Prim.Native.Nat.{ℕ, ◌%◌, ◌^◌, ◌≤◌, ◌<◌}
use native.Mathlib.Omega.{arith}
use lib.Dec.{eqb, leb, ltb}
use lib.ListN.{length}
use borrow.Author.Tests.{le-ltb, le-leb, lt-leb, leb-false, ltb-false, eq-eqb, eqb-true}
use Rattle.sets.specs.Lists.{any_of}
use Rattle.refusals.specs.Rows.{first_row}
use Rattle.refusals.proofs.Rows.{Numbered}
use Rattle.sets.proofs.Bools.{bif, clash, or_l, or_r, or-fl, or-fr, not_f}
use Rattle.theory.specs.Run.{source_of, letter_of_lem, target_of}
use Rattle.slice_search.specs.Places.{ascends}
use Rattle.table_lent.specs.Lent.{Lent, in_both, is_high, is_astray_lem, is_faulty_lem, table_rows_lem, table_row_lem}

-- ---- one code, one transition

pub high : (c : ℕ) → 2 ^ 48 ≤ c → is_high c ≡ true
high c h = le-leb (2 ^ 48) c h

pub not-high : (c : ℕ) → c < 2 ^ 48 → is_high c ≡ false
not-high c h = lt-leb (2 ^ 48) c h

module _ (n s t : ℕ) where
  pub source-astray : n ≤ source_of t → is_astray_lem n s t ≡ true
  source-astray h = or_l (leb n (source_of t)) (leb s (letter_of_lem t) || leb n (target_of t)) (le-leb n (source_of t) h)

  pub letter-astray : s ≤ letter_of_lem t → is_astray_lem n s t ≡ true
  letter-astray h = or_r (leb n (source_of t)) (leb s (letter_of_lem t) || leb n (target_of t)) (or_l (leb s (letter_of_lem t)) (leb n (target_of t)) (le-leb s (letter_of_lem t) h))

  pub target-astray : n ≤ target_of t → is_astray_lem n s t ≡ true
  target-astray h = or_r (leb n (source_of t)) (leb s (letter_of_lem t) || leb n (target_of t)) (or_r (leb s (letter_of_lem t)) (leb n (target_of t)) (le-leb n (target_of t) h))

  pub in-range : source_of t < n → letter_of_lem t < s → target_of t < n → is_astray_lem n s t ≡ false
  in-range h₁ h₂ h₃ = rw (lt-leb n (source_of t) h₁, lt-leb s (letter_of_lem t) h₂, lt-leb n (target_of t) h₃)

  pub range : is_astray_lem n s t ≡ false → (source_of t < n) × (letter_of_lem t < s) × (target_of t < n)
  range e =
      let rest = or-fr (leb n (source_of t)) (leb s (letter_of_lem t) || leb n (target_of t)) e in (
        leb-false n (source_of t) (or-fl (leb n (source_of t)) (leb s (letter_of_lem t) || leb n (target_of t)) e),
        leb-false s (letter_of_lem t) (or-fl (leb s (letter_of_lem t)) (leb n (target_of t)) rest),
        leb-false n (target_of t) (or-fr (leb s (letter_of_lem t)) (leb n (target_of t)) rest),
      )

-- ---- the numbers of a table

-- every test of row 15 on the numbers passes
pub record Clear (s : ℕ) (codes transitions : List ℕ) : Type 0 where
  pub few : length codes ≤ 65536
  pub codes_ascend : ascends codes ≡ true
  pub transitions_ascend : ascends transitions ≡ true
  pub none-high : any_of codes is_high ≡ false
  pub none-astray : any_of transitions (is_astray_lem (length codes) s) ≡ false

five : (a b c d e : Bool) → a || (not b || (not c || (d || e))) ≡ false → (a ≡ false) × (b ≡ true) × (c ≡ true) × (d ≡ false) × (e ≡ false)
five true b c d e h = clash refl h
five false false c d e h = clash refl h
five false true false d e h = clash refl h
five false true true true e h = clash refl h
five false true true false e h = (refl, refl, refl, refl, h)

module _ (s : ℕ) (codes transitions : List ℕ) where
  pub clear : is_faulty_lem s codes transitions ≡ false → Clear s codes transitions
  unfolding is_faulty_lem
  clear h =
      let p = five (ltb 65536 (length codes)) (ascends codes) (ascends transitions) (any_of codes is_high) (any_of transitions (is_astray_lem (length codes) s)) h in
      record { few = ltb-false 65536 (length codes) p.0; codes_ascend = p.1; transitions_ascend = p.2; none-high = p.3; none-astray = p.4 }

  pub faulty : (Clear s codes transitions → ⊥) → true ≡ is_faulty_lem s codes transitions
  faulty n = bif (is_faulty_lem s codes transitions) (λ t. sym t) (λ f. absurd (n (clear f)))

  -- after the other tests, the transitions decide
  pub by-transitions : length codes ≤ 65536 → ascends codes ≡ true → ascends transitions ≡ true → any_of codes is_high ≡ false
      → is_faulty_lem s codes transitions ≡ any_of transitions (is_astray_lem (length codes) s)
  unfolding is_faulty_lem
  by-transitions few c t h = rw (le-ltb 65536 (length codes) few, c, t, h)

  pub faultless : Clear s codes transitions → is_faulty_lem s codes transitions ≡ false
  faultless p = by-transitions p.few p.codes_ascend p.transitions_ascend p.none-high ∙ p.none-astray

-- ---- bytes left over

module _ (words bytes : List ℕ) where
  pub no-rest : length bytes % 8 ≡ 0 → (in_both words bytes).ragged ≡ false
  unfolding in_both
  no-rest e = rw (eq-eqb (length bytes % 8) 0 e)

  pub rest-none : (in_both words bytes).ragged ≡ false → length bytes % 8 ≡ 0
  unfolding in_both
  rest-none e = eqb-true (length bytes % 8) 0 (not_f (eqb (length bytes % 8) 0) e)

-- ---- the row

abbrev row : Bool → ℕ
row b = cond b 15 0

three : (a b c : Bool) → row (a || (b || c)) ≡ 0 → (a ≡ false) × (b ≡ false) × (c ≡ false)
three true b c h = absurd (omega arith)
three false true c h = absurd (omega arith)
three false false true h = absurd (omega arith)
three false false false h = (refl, refl, refl)

either : (b : Bool) → (row b ≡ 0) ⊎ (row b ≡ 15)
either true = inr refl
either false = inl refl

module _ (s : ℕ) (codes transitions : Lent) where
  pub rows-numbered : Numbered (table_rows_lem s codes transitions)
  unfolding table_rows_lem
  rows-numbered c m = rw (Memᴰ.eq_of_singleton m) (omega arith)

  pub zero-or-15 : (table_row_lem s codes transitions ≡ 0) ⊎ (table_row_lem s codes transitions ≡ 15)
  unfolding table_row_lem table_rows_lem first_row
  zero-or-15 = either (codes.ragged || (transitions.ragged || is_faulty_lem s codes.numbers transitions.numbers))

  pub parts : table_row_lem s codes transitions ≡ 0 → (codes.ragged ≡ false) × (transitions.ragged ≡ false) × (is_faulty_lem s codes.numbers transitions.numbers ≡ false)
  unfolding table_row_lem table_rows_lem first_row
  parts h = three codes.ragged transitions.ragged (is_faulty_lem s codes.numbers transitions.numbers) h

  -- row 15 refuses
  pub refused : (table_row_lem s codes transitions ≡ 0 → ⊥) → 15 ≡ table_row_lem s codes transitions
  refused n = ⊎_elim (λ z. absurd (n z)) (λ e. sym e) zero-or-15

  -- with the answer b of a test of the numbers
  module _ {b : Bool} (e : b ≡ is_faulty_lem s codes.numbers transitions.numbers) where
    pub faulty-refused : b ≡ true → 15 ≡ table_row_lem s codes transitions
    faulty-refused t = refused (λ z. clash (sym e ∙ t) (parts z).2)

    pub served : codes.ragged ≡ false → transitions.ragged ≡ false → b ≡ false → 0 ≡ table_row_lem s codes transitions
    unfolding table_row_lem table_rows_lem first_row
    served c t f = rw (c, t, sym e ∙ f)
