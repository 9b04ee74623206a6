-- The steps of a pair, found in the rows of its numbers: a row is what stands between two places of an ascending list.
use mathlib.Core.Path.{◌≡◌, refl, sym, ap, ap₂, ◌∙◌}
use mathlib.Core.Logic.{◌⊎◌, inl, inr, by_cases}
use mathlib.Core.List.{List}
use Prim.Native.Nat.{ℕ, ◌+◌, ◌*◌, ◌/◌, ◌%◌, ◌≤◌, ◌<◌}
use native.Mathlib.Omega.{arith}
use native.Mathlib.Decide.{dec_lt}
use lib.Arith.{digits_div, digits_mod}
use lib.ListN.{length, get_or}
use Rattle.sets.specs.Lists.{Ascending}
use Rattle.sets.proofs.Ascending.{asc-at}
use Rattle.sets.proofs.Lists.{place_of, mem-at}
use Rattle.slice_search.specs.Places.{below}
use Rattle.slice_search.proofs.Search.{below-le, before-place, from_place}
use Rattle.theory.specs.Run.{source_of, letter_of_lem, target_of}
use Rattle.stricter_laws.specs.Pairs.{PairStep, PairEdge, Paired, Fits, RowCut, Beside}

-- ---- two digits

-- a node has one number of each table
pub node-unique : {nb i j k l : ℕ} → j < nb → l < nb → i * nb + j ≡ k * nb + l → (i ≡ k) × (j ≡ l)
node-unique {nb} {i} {j} {k} {l} a b e =
    (sym (digits_div i a) ∙ ap (λ (x : ℕ). x / nb) e ∙ digits_div k b, sym (digits_mod i a) ∙ ap (λ (x : ℕ). x % nb) e ∙ digits_mod k b)

-- ---- rows

module _ {moves : List ℕ} (asc : Ascending moves) (i : ℕ) (cuts : List ℕ) (cut : RowCut moves i cuts) where
  pub cut-le : (a : ℕ) → a < 17 → get_or cuts a 0 ≤ length moves
  cut-le a l = let e = cut a l in let h = below-le (i * 16777216 + a * 65536) moves in omega arith

  -- what stands in a row has its source and its letter
  pub row_has : (a c : ℕ) → a < 16 → get_or cuts a 0 ≤ c → c < get_or cuts (a + 1) 0 → (source_of (get_or moves c 0) ≡ i) × (letter_of_lem (get_or moves c 0) ≡ a)
  row_has a c l f t =
      let e = cut a (omega arith) in
      let g = cut (a + 1) (omega arith) in
      let h = below-le (i * 16777216 + (a + 1) * 65536) moves in
      let low = from_place (i * 16777216 + a * 65536) moves asc c (omega arith) (omega arith) in
      let high = before-place (i * 16777216 + (a + 1) * 65536) moves asc c (omega arith) in
      (omega arith, omega arith)

  -- and all that has them stands there
  pub row-all : (c a : ℕ) → c < length moves → source_of (get_or moves c 0) ≡ i → letter_of_lem (get_or moves c 0) ≡ a → a < 16
      → (get_or cuts a 0 ≤ c) × (c < get_or cuts (a + 1) 0)
  row-all c a m s e l =
      let f = cut a (omega arith) in
      let g = cut (a + 1) (omega arith) in (
        by_cases (dec_lt c (get_or cuts a 0)) (λ h. let k = before-place (i * 16777216 + a * 65536) moves asc c (omega arith) in absurd (omega arith)) (λ h. omega arith),
        by_cases (dec_lt c (get_or cuts (a + 1) 0)) (λ h. h) (λ h. let k = from_place (i * 16777216 + (a + 1) * 65536) moves asc c (omega arith) m in absurd (omega arith)),
      )

-- a place of j's row, which ends at k
pub in_row : {moves : List ℕ} → Ascending moves → (j k : ℕ) → below (j * 16777216) moves ≤ k → (k < length moves → source_of (get_or moves k 0) ≡ j → ⊥)
    → (p : ℕ) → p < length moves → source_of (get_or moves p 0) ≡ j → (below (j * 16777216) moves ≤ p) × (p < k)
in_row {moves = moves} asc j k from end p l e = (
  by_cases (dec_lt p (below (j * 16777216) moves)) (λ h. let q = before-place (j * 16777216) moves asc p h in absurd (omega arith)) (λ h. omega arith),
  by_cases (dec_lt p k) (λ h. h)
      (λ h. let q = from_place (j * 16777216) moves asc k from (omega arith) in
      let later : get_or moves k 0 ≤ get_or moves p 0 =
      by_cases (dec_lt k p) (λ g. let a = asc-at moves asc k p g l in omega arith) (λ g. let same : k ≡ p = omega arith in rw same (omega arith)) in
      absurd (end (omega arith) (omega arith))),
)

-- the next transition beside number q
pub beside-next : {nb : ℕ} {moves : List ℕ} {from : ℕ} (c : ℕ) {q y : ℕ} → Beside nb moves from (c + 1) q y → Beside nb moves from c q y ⊎ (y ≡ target_of (get_or moves c 0) * nb + q)
beside-next {nb = nb} {moves = moves} c {q = q} b =
    by_cases (dec_lt b.place c)
    (λ l. inl (record { place = b.place; above = b.above; under = l; node = b.node }))
    (λ l. let e : b.place ≡ c = omega (arith, b.under) in inr (b.node ∙ ap (λ (k : ℕ). target_of (get_or moves k 0) * nb + q) e))

-- ---- the steps of a pair: the row of j is walked from its start on, beside the rows of i

module _ (nb : ℕ) (ma mb : List ℕ) (j : ℕ) where
  -- the nodes that the transitions of j's row before place k lead to
  abbrev pub Walked : List ℕ → ℕ → ℕ → Type 0
  Walked cuts k y = (p : ℕ) × (below (j * 16777216) mb ≤ p) × (p < k) × Beside nb ma (get_or cuts (letter_of_lem (get_or mb p 0)) 0) (get_or cuts (letter_of_lem (get_or mb p 0) + 1) 0) (target_of (get_or mb p 0)) y

  pub walked_next : (cuts : List ℕ) (k u : ℕ) {y : ℕ} → u ≡ get_or mb k 0 → Walked cuts (k + 1) y
      → Walked cuts k y ⊎ Beside nb ma (get_or cuts (letter_of_lem u) 0) (get_or cuts (letter_of_lem u + 1) 0) (target_of u) y
  walked_next cuts k u e w =
      by_cases (dec_lt w.0 k)
      (λ l. inl (w.0, w.1, l, w.3))
      (λ l. let q : w.0 ≡ k = omega (arith, w.2) in inr (rw (e, sym q) w.3))

module _ {nb : ℕ} {ma mb : List ℕ} {size : ℕ} (paired : Paired nb ma mb size) (j : ℕ) (j-low : j < nb) where
  module _ (i : ℕ) (cuts : List ℕ) (cut : RowCut ma i cuts) where
    -- what a transition of j's row leads to, beside the row of i over its letter, the pair steps to
    pub beside-step : (p : ℕ) {y : ℕ} → p < length mb → source_of (get_or mb p 0) ≡ j
        → Beside nb ma (get_or cuts (letter_of_lem (get_or mb p 0)) 0) (get_or cuts (letter_of_lem (get_or mb p 0) + 1) 0) (target_of (get_or mb p 0)) y → PairStep nb ma mb (i * nb + j) (letter_of_lem (get_or mb p 0)) y
    beside-step p {y = y} l s b =
        let u = get_or mb p 0 in
        let m = mem-at mb p l in
        let low = paired.lettered u m in
        let h = row_has paired.ascend_a i cuts cut (letter_of_lem u) b.place low b.above b.under in
        let top = cut-le paired.ascend_a i cuts cut (letter_of_lem u + 1) (omega arith) in
        record {
          of_a = get_or ma b.place 0;
          of_b = u;
          listed_a = mem-at ma b.place (omega (arith, b.under));
          listed_b = m;
          letter_a = h.1;
          letter_b = refl;
          source = ap₂ (λ (x y : ℕ). x * nb + y) (sym h.0) (sym s);
          target = b.node;
        }

    -- all steps of the pair are among them when the row of j ends at k
    pub step-walked : (k : ℕ) → below (j * 16777216) mb ≤ k → (k < length mb → source_of (get_or mb k 0) ≡ j → ⊥) → (y : ℕ) → PairEdge nb ma mb (i * nb + j) y → Walked nb ma mb j cuts k y
    step-walked k from end y (a, s) =
        let t = s.of_a in let u = s.of_b in
        let e = node-unique {nb = nb} {i = i} {j = j} {k = source_of t} {l = source_of u} j-low (paired.sources u s.listed_b) s.source in
        let p = place_of mb u s.listed_b in
        let o = place_of ma t s.listed_a in
        let r = row-all paired.ascend_a i cuts cut o.0 (letter_of_lem u) o.1 (rw o.2 (sym e.0)) (rw o.2 (s.letter_a ∙ sym s.letter_b)) (paired.lettered u s.listed_b) in
        let w = in_row paired.ascend_b j k from end p.0 p.1 (rw p.2 (sym e.1)) in
        let same : get_or mb p.0 0 ≡ u = p.2 in
        (p.0, w.0, w.1, record { place = o.0; above = rw same r.0; under = rw same r.1; node = rw (same, o.2) s.target })

-- ---- two tables and their pairs

pub fits-same : {na nb : ℕ} {ma mb ms : List ℕ} (ns : List ℕ) → length ns ≡ length ms → Fits na nb ma mb ms → Fits na nb ma mb ns
fits-same ns e f = record { paired = f.paired; marked = e ∙ f.marked; few_a = f.few_a; few_b = f.few_b }
