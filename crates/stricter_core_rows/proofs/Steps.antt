-- The steps of a pair of cores, found in the rows of its numbers.
use mathlib.Core.Path.{◌≡◌, refl, sym, ap, ap₂, subst, ◌∙◌}
use mathlib.Core.Logic.{◌⊎◌, inl, inr}
use mathlib.Core.Bool.{Bool, true, false, cond, true≢false, false≢true}
use mathlib.Core.List.{List, Memᴰ}
use Prim.Native.Nat.{ℕ, ◌+◌, ◌*◌, ◌≤◌, ◌<◌}
use native.Mathlib.Omega.{arith}
use lib.ListN.{length, get_or}
use Rattle.sets.specs.Lists.{Ascending}
use Rattle.sets.proofs.Lists.{place_of, mem-at}
use Rattle.slice_search.specs.Places.{below}
use Rattle.theory.specs.Run.{letter_of_lem}
use Rattle.stricter_laws.specs.Pairs.{RowCut}
use Rattle.stricter_laws.proofs.Rows.{node-unique, cut-le, row_has, row-all, in_row}
use Rattle.stricter_spec.specs.Tags.{row_of_lem, onto_of_lem, sparing, untagged}
use Rattle.stricter_spec.specs.Steps.{CoreStep, SparedStep, CoresFit}
use Rattle.stricter_spec.specs.Rounds.{Leading}
use Rattle.stricter_core_rows.specs.Rows.{needed, Met}
use Rattle.stricter_laws.proofs.Tags.{untagged-long, untagged-at}

-- ---- rows

module _ (left : List ℕ) (asc : Ascending (untagged left)) (i : ℕ) (cuts : List ℕ) (cut : RowCut (untagged left) i cuts) where
  -- what stands in a row has its number and its letter
  cut_has : (a c : ℕ) → a < 16 → get_or cuts a 0 ≤ c → c < get_or cuts (a + 1) 0
      → (c < length left) × (row_of_lem (get_or left c 0) ≡ i) × (letter_of_lem (get_or left c 0) ≡ a)
  cut_has a c l f t =
      let h = row_has asc i cuts cut a c l f t in
      let s = cut-le asc i cuts cut (a + 1) (omega arith) in
      let n = untagged-long left in
      let e = untagged-at left c in
      (omega arith, omega (arith, h.0, e), omega (arith, h.1, e))

  -- and all that has them stands there
  cut_all : (c a : ℕ) → c < length left → row_of_lem (get_or left c 0) ≡ i → letter_of_lem (get_or left c 0) ≡ a → a < 16
      → (get_or cuts a 0 ≤ c) × (c < get_or cuts (a + 1) 0)
  cut_all c a n s e l =
      let u = untagged-at left c in
      row-all asc i cuts cut c a (omega (arith, untagged-long left)) (omega arith) (omega arith) l

-- ---- the steps of a pair

module _ (nb : ℕ) (left right marks : List ℕ) (second : Bool) (k other : ℕ) (cuts : List ℕ) where
  -- no transition of the row that is cut has, beside u of B, the mark it needs
  abbrev pub Missed : ℕ → Type 0
  Missed u = (c : ℕ) → get_or cuts (letter_of_lem u) 0 ≤ c → c < get_or cuts (letter_of_lem u + 1) 0
      → get_or marks (onto_of_lem (get_or left c 0) * nb + onto_of_lem u) 0 < needed other (sparing (cond second u (get_or left c 0)) k)

  -- u does so
  abbrev pub MetBy : ℕ → Bool → Type 0
  MetBy u r = Met (λ t. needed other (sparing (cond second u t) k)) nb left (get_or cuts (letter_of_lem u) 0) (get_or cuts (letter_of_lem u + 1) 0) (onto_of_lem u) marks r

  module _ {na : ℕ} (fit : CoresFit na nb left right marks) (j : ℕ) (j-low : j < nb) where
    module _ (i : ℕ) (cut : RowCut (untagged left) i cuts) where
      -- the pair steps by a transition of each row
      step_by : {u : ℕ} (c : ℕ) → Memᴰ u right → row_of_lem u ≡ j → get_or cuts (letter_of_lem u) 0 ≤ c → c < get_or cuts (letter_of_lem u + 1) 0
          → CoreStep nb left right (i * nb + j) (onto_of_lem (get_or left c 0) * nb + onto_of_lem u)
      step_by {u = u} c m s f l =
          let h = cut_has left fit.ascend_a i cuts cut (letter_of_lem u) c (fit.letters_b u m) f l in
          record {
            of_a = get_or left c 0;
            of_b = u;
            listed_a = mem-at left c h.0;
            listed_b = m;
            letters = h.2;
            source = ap₂ (λ (x y : ℕ). x * nb + y) (sym h.1) (sym s);
            target = refl;
          }

      by-need : (u c : ℕ) (s : Bool) → CoreStep nb left right (i * nb + j) (onto_of_lem (get_or left c 0) * nb + onto_of_lem u)
          → (s ≡ true → SparedStep nb left right second k (i * nb + j) (onto_of_lem (get_or left c 0) * nb + onto_of_lem u))
          → needed other s ≤ get_or marks (onto_of_lem (get_or left c 0) * nb + onto_of_lem u) 0
          → ((y : ℕ) × SparedStep nb left right second k (i * nb + j) y × (1 ≤ get_or marks y 0))
          ⊎ ((y : ℕ) × CoreStep nb left right (i * nb + j) y × (other ≤ get_or marks y 0))
      by-need u c true e f l = inl (onto_of_lem (get_or left c 0) * nb + onto_of_lem u, f refl, l)
      by-need u c false e f l = inr (onto_of_lem (get_or left c 0) * nb + onto_of_lem u, e, l)

      -- one that is met is found
      pub met-leading : {u : ℕ} → Memᴰ u right → row_of_lem u ≡ j → (r : Bool) → r ≡ true → MetBy u r
          → Leading (CoreStep nb left right) (SparedStep nb left right second k) other marks (i * nb + j) true
      unfolding step_by
      met-leading {u = u} m s b t w =
          let (c, f, l, n) = w.yes t in
          let e = step_by c m s f l in
          record {
            yes = λ r. by-need u c (sparing (cond second u (get_or left c 0)) k) e (λ q. record { step = e; spares = q }) n;
            no = λ r. absurd (true≢false r);
          }

      module _ (rows : (u : ℕ) → Memᴰ u right → row_of_lem u < nb) (p : ℕ) (from : below (j * 16777216) (untagged right) ≤ p)
          (end : p < length right → row_of_lem (get_or right p 0) ≡ j → ⊥)
          (missed : (o : ℕ) → below (j * 16777216) (untagged right) ≤ o → o < p → Missed (get_or right o 0)) where
        -- a step has not the mark it needs
        low_step : {y : ℕ} (e : CoreStep nb left right (i * nb + j) y) → get_or marks y 0 < needed other (sparing (cond second e.of_b e.of_a) k)
        low_step e =
            let t = e.of_a in let u = e.of_b in
            let d = node-unique {nb = nb} {i = i} {j = j} {k = row_of_lem t} {l = row_of_lem u} j-low (rows u e.listed_b) e.source in
            let a = place_of left t e.listed_a in
            let b = place_of right u e.listed_b in
            let ta : get_or left a.0 0 ≡ t = a.2 in
            let ub : get_or right b.0 0 ≡ u = b.2 in
            let z = untagged-at right b.0 in
            let v = untagged-at right p in
            let n = untagged-long right in
            let row : row_of_lem (get_or right b.0 0) ≡ j = ap row_of_lem ub ∙ sym d.1 in
            let s = in_row fit.ascend_b j p from (λ g h. end (omega arith) (omega arith)) b.0 (omega (arith, b.1)) (omega arith) in
            let w = cut_all left fit.ascend_a i cuts cut a.0 (letter_of_lem u) a.1 (ap row_of_lem ta ∙ sym d.0) (ap letter_of_lem ta ∙ e.letters) (fit.letters_b u e.listed_b) in
            let m : Missed u = subst Missed ub (missed b.0 s.0 s.1) in
            let g = m a.0 w.0 w.1 in
            rw e.target (subst (λ (v : ℕ). get_or marks (onto_of_lem v * nb + onto_of_lem u) 0 < needed other (sparing (cond second u v) k)) ta g)

        under-other : 1 ≤ other → (v : ℕ) (s : Bool) → v < needed other s → v < other
        under-other o v true l = omega arith
        under-other o v false l = l

        under_one : (v : ℕ) (s : Bool) → s ≡ true → v < needed other s → v < 1
        under_one v true e l = l
        under_one v false e l = absurd (false≢true e)

        -- none is met, and the row of j ends: nothing is found
        pub missed-leading : 1 ≤ other → Leading (CoreStep nb left right) (SparedStep nb left right second k) other marks (i * nb + j) false
        missed-leading o =
            record {
              yes = λ r. absurd (false≢true r);
              no = λ r. record {
                spared = λ y e. under_one (get_or marks y 0) (sparing (cond second e.step.of_b e.step.of_a) k) e.spares (low_step e.step);
                passes = λ y e. under-other o (get_or marks y 0) (sparing (cond second e.of_b e.of_a) k) (low_step e);
              };
            }
