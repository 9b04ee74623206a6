-- Laws of rows that are filled one after the other.
use mathlib.Core.Path.{◌≡◌, refl, sym, ap, ap₂, ◌∙◌}
use mathlib.Core.Bool.{Bool, true, false, ◌&&◌, cond, and-false}
use mathlib.Core.List.{List}
use mathlib.Core.Logic.{inl, inr, by_cases}
use Prim.Native.Nat.{ℕ, ◌+◌, ◌-◌, ◌*◌, ◌≤◌, ◌<◌}
use native.Mathlib.Omega.{arith}
use native.Mathlib.Decide.{dec_lt}
use lib.Arith.{digits_div, digits_mod, digits_lt}
use lib.Dec.{eqb}
use lib.ListN.{length, get_or, set}
use borrow.Author.Tests.{eqb-true, ne_eqb, ltb-true, ltb-false}
use Rattle.sets.specs.Tests.{one}
use Rattle.sets.proofs.Bools.{bif}
use Rattle.stricter_spec.specs.Tags.{core_number_lem}
use Rattle.stricter_spec.specs.Steps.{stands_in, has_core, OnlyCores, CoresIn, Spread}
use Rattle.stricter_laws.proofs.Fitting.{row_out}
use Rattle.stricter_laws.specs.Fill.{Filled}
use Rattle.stricter_laws.proofs.Fill.{filled_next, filled-then}
use Rattle.stricter_marks.specs.Rows.{placed_at, core_at_lem, taken_at_lem, Standing}

-- the value at a place of a row
pub stand-value : (codes : List ℕ) (base j : ℕ) → one (eqb (core_number_lem (get_or codes j 0)) j) ≡ one (stands_in codes (base + j - base))
unfolding stands_in
stand-value codes base j = let e : base + j - base ≡ j = omega arith in rw e

pub stands-no : (codes : List ℕ) (i v : ℕ) → v ≡ one (eqb (core_number_lem (get_or codes i 0)) i) → v ≡ 0 → stands_in codes i ≡ false
unfolding stands_in
stands-no codes i v e z = bif (eqb (core_number_lem (get_or codes i 0)) i) (λ t. let f : v ≡ 1 = e ∙ ap one t in absurd (omega arith)) (λ t. t)

pub stands-yes : (codes : List ℕ) (i v : ℕ) → v ≡ one (eqb (core_number_lem (get_or codes i 0)) i) → (v ≡ 0 → ⊥) → stands_in codes i ≡ true
unfolding stands_in
stands-yes codes i v e z = bif (eqb (core_number_lem (get_or codes i 0)) i) (λ t. t) (λ t. absurd (z (e ∙ ap one t)))

-- ---- marks of other places

-- f gives places marks of old: the mark of a place that gives its own is as it was
module _ {f : ℕ → ℕ} {from to : ℕ} {old ms : List ℕ} (h : Filled f from to old ms) where
  kept : (p : ℕ) → f p ≡ get_or old p 0 → get_or ms p 0 ≡ get_or old p 0
  kept p e =
      by_cases (dec_lt p from)
      (λ l. h.outside p (inl l))
      (λ l. by_cases (dec_lt p to) (λ m. h.inside p (omega arith) m ∙ e) (λ m. h.outside p (inr (omega arith))))

-- ---- the two numbers of a pair

module _ (acodes bcodes : List ℕ) where
  placed-at : (i j : ℕ) → j < length bcodes → placed_at acodes bcodes (i * length bcodes + j) ≡ one (stands_in acodes i && stands_in bcodes j)
  unfolding placed_at
  placed-at i j l = ap₂ (λ (a b : ℕ). one (stands_in acodes a && stands_in bcodes b)) (digits_div i l) (digits_mod i l)

  core_at : (i j : ℕ) → j < length bcodes
      → core_at_lem acodes bcodes (i * length bcodes + j) ≡ core_number_lem (get_or acodes i 0) * length bcodes + core_number_lem (get_or bcodes j 0)
  unfolding core_at_lem
  core_at i j l = ap₂ (λ (a b : ℕ). core_number_lem (get_or acodes a 0) * length bcodes + core_number_lem (get_or bcodes b 0)) (digits_div i l) (digits_mod i l)

  -- a place of row i is that of a pair of number i
  row-place : (i x : ℕ) → i * length bcodes ≤ x → x < i * length bcodes + length bcodes → x ≡ i * length bcodes + (x - i * length bcodes)
  row-place i x a b = omega arith

  -- ---- pairs of cores

  pub stand-same : (i : ℕ) → stands_in acodes i ≡ true → (x : ℕ) → i * length bcodes ≤ x → x < i * length bcodes + length bcodes
      → one (stands_in bcodes (x - i * length bcodes)) ≡ placed_at acodes bcodes x
  stand-same i s x a b =
      let j : ℕ = x - i * length bcodes in
      let e : one (stands_in acodes i && stands_in bcodes j) ≡ one (stands_in bcodes j) = rw s in
      sym (ap (placed_at acodes bcodes) (row-place i x a b) ∙ placed-at i j (omega arith) ∙ e)

  pub clear-same : (i : ℕ) → stands_in acodes i ≡ false → (x : ℕ) → i * length bcodes ≤ x → x < i * length bcodes + length bcodes
      → 0 ≡ placed_at acodes bcodes x
  clear-same i s x a b =
      let j : ℕ = x - i * length bcodes in
      let e : one (stands_in acodes i && stands_in bcodes j) ≡ 0 = rw s in
      sym (ap (placed_at acodes bcodes) (row-place i x a b) ∙ placed-at i j (omega arith) ∙ e)

  -- row i after those before it
  pub placed_row : (i : ℕ) {old ms new : List ℕ} → Filled (placed_at acodes bcodes) 0 (i * length bcodes) old ms
      → Filled (placed_at acodes bcodes) (i * length bcodes) (i * length bcodes + length bcodes) ms new
      → Filled (placed_at acodes bcodes) 0 (i * length bcodes + length bcodes) old new
  placed_row i f g = filled-then (omega arith) (omega arith) f g (λ x a b. refl)

  pub placed_end : {old new : List ℕ} → length old ≡ length acodes * length bcodes
      → Filled (placed_at acodes bcodes) 0 (length acodes * length bcodes) old new → CoresIn acodes bcodes new
  placed_end e f = record {
    long = f.long ∙ e;
    each = λ i j k l. f.inside (i * length bcodes + j) (omega arith) (digits_lt {q = i} {m = length acodes} {c = length bcodes} k l) ∙ placed-at i j l;
  }

  -- ---- pairs that get the marks of their cores'

  taken_at : (marks : List ℕ) (i j : ℕ) → j < length bcodes → taken_at_lem acodes bcodes marks (i * length bcodes + j)
      ≡ cond (has_core acodes i && has_core bcodes j) (get_or marks (core_number_lem (get_or acodes i 0) * length bcodes + core_number_lem (get_or bcodes j 0)) 0) 0
  unfolding taken_at_lem
  taken_at marks i j l =
      ap₂ (λ (a b : ℕ). cond (has_core acodes a && has_core bcodes b) (get_or marks (core_at_lem acodes bcodes (i * length bcodes + j)) 0) 0) (digits_div i l) (digits_mod i l)
      ∙ ap (λ (x : ℕ). cond (has_core acodes i && has_core bcodes j) (get_or marks x 0) 0) (core_at i j l)

  -- a number that has a core
  pub core-below : (codes : List ℕ) (i : ℕ) → has_core codes i ≡ true → core_number_lem (get_or codes i 0) < length codes
  unfolding has_core
  core-below codes i e = ltb-true (core_number_lem (get_or codes i 0)) (length codes) e

  -- its core is its own core
  own : (codes : List ℕ) → Standing codes → (i : ℕ) → i < length codes → has_core codes i ≡ true
      → core_number_lem (get_or codes (core_number_lem (get_or codes i 0)) 0) ≡ core_number_lem (get_or codes i 0)
  unfolding stands_in
  own codes S i l e = eqb-true (core_number_lem (get_or codes (core_number_lem (get_or codes i 0)) 0)) (core_number_lem (get_or codes i 0)) (S i l e)

  own-has : (codes : List ℕ) → Standing codes → (i : ℕ) → i < length codes → has_core codes i ≡ true → has_core codes (core_number_lem (get_or codes i 0)) ≡ true
  unfolding has_core
  own-has codes S i l e = rw (own codes S i l e) e

  module _ (SA : Standing acodes) (SB : Standing bcodes) (i j : ℕ) (k : i < length acodes) (l : j < length bcodes)
      (ha : has_core acodes i ≡ true) (hb : has_core bcodes j ≡ true) where
    abbrev pair : ℕ
    pair = core_number_lem (get_or acodes i 0) * length bcodes + core_number_lem (get_or bcodes j 0)

    pub core-low : core_number_lem (get_or acodes i 0) * length bcodes + core_number_lem (get_or bcodes j 0) < length acodes * length bcodes
    core-low = digits_lt {q = core_number_lem (get_or acodes i 0)} {m = length acodes} {c = length bcodes} (core-below acodes i ha) (core-below bcodes j hb)

    -- the pair of the cores takes its own mark
    core-own : (marks : List ℕ) → taken_at_lem acodes bcodes marks pair ≡ get_or marks pair 0
    core-own marks =
        taken_at marks (core_number_lem (get_or acodes i 0)) (core_number_lem (get_or bcodes j 0)) (core-below bcodes j hb)
        ∙ ap₂ (λ (a b : Bool). cond (a && b) (get_or marks next 0) 0) (own-has acodes SA i k ha) (own-has bcodes SB j l hb)
        ∙ ap (λ (x : ℕ). get_or marks x 0) (ap₂ (λ (a b : ℕ). a * length bcodes + b) (own acodes SA i k ha) (own bcodes SB j l hb))
      where
        next : ℕ
        next = core_number_lem (get_or acodes (core_number_lem (get_or acodes i 0)) 0) * length bcodes + core_number_lem (get_or bcodes (core_number_lem (get_or bcodes j 0)) 0)

  -- the marks from `from` up to `to` are those of old at the pairs of the cores
  abbrev pub Moved : ℕ → ℕ → List ℕ → List ℕ → Type 0
  Moved from to old new = Filled (taken_at_lem acodes bcodes old) from to old new

  module _ (SA : Standing acodes) (SB : Standing bcodes) where
    -- what a pair takes is there still
    pub taken-kept : {from to : ℕ} {old ms : List ℕ} → Moved from to old ms → (i j : ℕ) → i < length acodes → j < length bcodes
        → taken_at_lem acodes bcodes ms (i * length bcodes + j) ≡ taken_at_lem acodes bcodes old (i * length bcodes + j)
    taken-kept {old = old} {ms = ms} h i j k l =
        taken_at ms i j l
        ∙ bif (has_core acodes i)
        (λ ha. bif (has_core bcodes j)
        (λ hb. ap (λ (v : ℕ). cond (has_core acodes i && has_core bcodes j) v 0)
        (kept h (core_number_lem (get_or acodes i 0) * length bcodes + core_number_lem (get_or bcodes j 0)) (core-own SA SB i j k l ha hb old)))
        (λ hb. rw hb (rw and-false)))
        (λ ha. rw ha)
        ∙ sym (taken_at old i j l)

    -- the pair of i, which has a core, and j takes its mark
    pub moved-next : (i j : ℕ) → i < length acodes → j < length bcodes → has_core acodes i ≡ true → {from : ℕ} {old ms : List ℕ} (v : ℕ)
        → from ≤ i * length bcodes + j → i * length bcodes + j < length ms → Moved from (i * length bcodes + j) old ms
        → v ≡ cond (has_core bcodes j) (get_or ms (core_number_lem (get_or acodes i 0) * length bcodes + core_number_lem (get_or bcodes j 0)) 0) 0
        → Moved from (i * length bcodes + j + 1) old (set ms (i * length bcodes + j) v)
    moved-next i j k l ha {ms = ms} v a b h e =
        filled_next v a b h
        (e ∙ ap (λ (w : Bool). cond (w && has_core bcodes j) (get_or ms (core_number_lem (get_or acodes i 0) * length bcodes + core_number_lem (get_or bcodes j 0)) 0) 0) (sym ha)
        ∙ sym (taken_at ms i j l) ∙ taken-kept h i j k l)

    -- row i after those before it
    pub moved_row : (i : ℕ) → i < length acodes → {old ms new : List ℕ} → Moved 0 (i * length bcodes) old ms
        → Moved (i * length bcodes) (i * length bcodes + length bcodes) ms new → Moved 0 (i * length bcodes + length bcodes) old new
    moved_row i k f g =
        filled-then
        (omega arith) (omega arith) f g
        (λ x a b. rw (row-place i x a b) (taken-kept f i (x - i * length bcodes) k (omega arith)))

  -- a row of zeros of a number that has no core
  abbrev pub Out : List ℕ → ℕ → Type 0
  Out marks i = has_core acodes i ≡ false → (x : ℕ) → i * length bcodes ≤ x → x < i * length bcodes + length bcodes → get_or marks x 0 ≡ 0

  pub moved_out : (i : ℕ) {ms : List ℕ} → Out ms i → has_core acodes i ≡ false → Moved (i * length bcodes) (i * length bcodes + length bcodes) ms ms
  moved_out i {ms = ms} o e = record {
    long = refl;
    inside = λ x a b. o e x a b ∙ sym (ap (taken_at_lem acodes bcodes ms) (row-place i x a b) ∙ taken_at ms i (x - i * length bcodes) (omega arith) ∙ rw e);
    outside = λ x h. refl;
  }

  -- rows that come later are as they were
  pub out-later : (i : ℕ) {old ms : List ℕ} → Moved 0 (i * length bcodes) old ms → Out old i → Out ms i
  out-later i f o e x a b = f.outside x (inr a) ∙ o e x a b

  pub out-row : (marks : List ℕ) → OnlyCores acodes (length bcodes) marks → (i : ℕ) → i < length acodes → Out marks i
  unfolding has_core stands_in
  out-row marks o i l e x a b =
      row_out acodes (length bcodes) marks o i
      (ne_eqb (core_number_lem (get_or acodes i 0)) i (λ q. let h = ltb-false (core_number_lem (get_or acodes i 0)) (length acodes) e in omega arith)) x a b

  pub moved-end : {old new : List ℕ} → Moved 0 (length acodes * length bcodes) old new → Spread acodes bcodes old new
  moved-end {old = old} f = record {
    long = f.long;
    each = λ i j k l. f.inside (i * length bcodes + j) (omega arith) (digits_lt {q = i} {m = length acodes} {c = length bcodes} k l) ∙ taken_at old i j l;
  }
