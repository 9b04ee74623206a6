-- How long a text is: the sum of its lines, and a bound.
use mathlib.Core.Path.{◌≡◌, refl, ◌∙◌, ap}
use mathlib.Core.List.{List, [], ◌∷◌, Memᴰ}
use mathlib.Core.Logic.{by_cases}
use Prim.Native.Nat.{ℕ, suc, ◌+◌, ◌*◌, ◌≤◌, ◌<◌}
use native.Mathlib.Omega.{arith}
use native.Mathlib.Decide.{dec_lt, ℕ_discrete}
use native.Mathlib.Nat.{add-zero, zero-add}
use lib.Dec.{eqb, ltb}
use lib.ListN.{length, get_or, length-append}
use borrow.Author.Tests.{eq-eqb, ne_eqb, lt-ltb, le-ltb}
use Rattle.sets.specs.Masks.{bit}
use Rattle.sets.specs.Lists.{keep, Above, end, more, Ascending, none, from}
use Rattle.sets.proofs.Bools.{bif}
use Rattle.theory.specs.Run.{source_of, letter_of_lem, target_of}
use Rattle.listing_lines_spec.specs.Lines.{lines}
use Rattle.listing_lines_spec.proofs.Lines.{lines-length}
use Rattle.hoa_spec.specs.Lines.{states_line, ap_line, edge_line}
use Rattle.hoa_spec.specs.Text.{start_of, state_of, edge_of, leaving, block_of, automaton_text}
use Rattle.hoa_laws.proofs.Lengths.{word-short, states-length, ap-length, start-short, state-short, edge-short}
use Rattle.hoa_laws.proofs.Edges.{any-number}
use Rattle.hoa_laws.proofs.Leaving.{keep-yes, keep-no}

-- ---- the edge lines of all numbers are those of the list

module _ (b : ℕ) where
  -- how long the edge lines of a list are
  abbrev edges : List ℕ → ℕ
  edges ts = length (lines (edge_of b) 0 ts)

  edges-cons : (t : ℕ) (ts : List ℕ) → edges (t ∷ ts) ≡ length (edge_line b (letter_of_lem t) (target_of t)) + edges ts
  unfolding lines
  edges-cons t ts =
      length-append (edge_line b (letter_of_lem t) (target_of t)) (lines (edge_of b) 1 ts)
      ∙ ap (λ (s : List ℕ). length (edge_line b (letter_of_lem t) (target_of t)) + length s) (any-number b 1 0 ts)

  -- the transitions from numbers below i
  abbrev below : List ℕ → ℕ → List ℕ
  below ts i = keep (λ t. ltb (source_of t) i) ts

  below_next : (ts : List ℕ) (i : ℕ) → edges (below ts (suc i)) ≡ edges (below ts i) + edges (leaving ts i)
  unfolding keep leaving lines
  below_next [] i = refl
  below_next (t ∷ ts) i =
      let ih = below_next ts i in
      let cons = edges-cons t (below ts (suc i)) in
      by_cases (dec_lt (source_of t) i)
      (λ l.
      let x = keep-yes (λ u. ltb (source_of u) (suc i)) t ts (lt-ltb (source_of t) (suc i) (omega arith)) in
      let y = keep-yes (λ u. ltb (source_of u) i) t ts (lt-ltb (source_of t) i l) in
      let z = keep-no (λ u. eqb (source_of u) i) t ts (ne_eqb (source_of t) i (omega arith)) in
      rw (x, y, z) (omega (arith, ih, edges-cons t (below ts (suc i)), edges-cons t (below ts i))))
      (λ n. by_cases (ℕ_discrete (source_of t) i)
      (λ e.
      let x = keep-yes (λ u. ltb (source_of u) (suc i)) t ts (lt-ltb (source_of t) (suc i) (omega arith)) in
      let y = keep-no (λ u. ltb (source_of u) i) t ts (le-ltb (source_of t) i (omega arith)) in
      let z = keep-yes (λ u. eqb (source_of u) i) t ts (eq-eqb (source_of t) i e) in
      rw (x, y, z) (omega (arith, ih, edges-cons t (below ts (suc i)), edges-cons t (leaving ts i))))
      (λ m.
      let x = keep-no (λ u. ltb (source_of u) (suc i)) t ts (le-ltb (source_of t) (suc i) (omega arith)) in
      let y = keep-no (λ u. ltb (source_of u) i) t ts (le-ltb (source_of t) i (omega arith)) in
      let z = keep-no (λ u. eqb (source_of u) i) t ts (ne_eqb (source_of t) i m) in
      rw (x, y, z) ih))

  blocks_from : (ts flags : List ℕ) (i : ℕ)
      → length (lines (block_of b ts) i flags) + edges (below ts i) ≡ length (lines state_of i flags) + edges (below ts (i + length flags))
  unfolding lines block_of
  blocks_from ts [] i = omega (arith, ap (λ (k : ℕ). edges (below ts k)) (add-zero i))
  blocks_from ts (f ∷ flags) i =
      let ih = blocks_from ts flags (suc i) in
      let e : suc i + length flags ≡ i + suc (length flags) = omega arith in
      let last = ap (λ (k : ℕ). edges (below ts k)) e in
      simp length-append (omega (arith, ih, last, below_next ts i))

  below_none : (ts : List ℕ) → below ts 0 ≡ []
  unfolding keep
  below_none [] = refl
  below_none (t ∷ ts) = keep-no (λ u. ltb (source_of u) 0) t ts (le-ltb (source_of t) 0 (omega arith)) ∙ below_none ts

  below_all : (ts : List ℕ) (n : ℕ) → ((t : ℕ) → Memᴰ t ts → source_of t < n) → below ts n ≡ ts
  unfolding keep
  below_all [] n h = refl
  below_all (t ∷ ts) n h =
      keep-yes (λ u. ltb (source_of u) n) t ts (lt-ltb (source_of t) n (h t (Memᴰ.head refl)))
      ∙ ap (λ (s : List ℕ). t ∷ s) (below_all ts n (λ u m. h u (Memᴰ.tail m)))

  -- the lines of the macrostates are as long as all state lines and all edge lines
  pub blocks-length : (ts flags : List ℕ) → ((t : ℕ) → Memᴰ t ts → source_of t < length flags)
      → length (lines (block_of b ts) 0 flags) ≡ length (lines state_of 0 flags) + length (lines (edge_of b) 0 ts)
  unfolding lines
  blocks-length ts flags h =
      omega (arith, blocks_from ts flags 0, ap edges (below_none ts), ap (λ (k : ℕ). edges (below ts k)) (zero-add (length flags)) ∙ ap edges (below_all ts (length flags) h))

-- ---- the whole text

-- an ascending list of numbers below 2 to the power 40 has no more members
few-from : (n x : ℕ) (xs : List ℕ) → Above x xs → ((z : ℕ) → Memᴰ z xs → z < n) → x < n → x + length xs < n
few-from n x [] end h l = omega arith
few-from n x (y ∷ xs) (more k a) h l = omega (arith, few-from n y xs a (λ z m. h z (Memᴰ.tail m)) (h y (Memᴰ.head refl)))

pub few-members : (n : ℕ) (xs : List ℕ) → Ascending xs → ((z : ℕ) → Memᴰ z xs → z < n) → length xs ≤ n
few-members n [] none h = omega arith
few-members n (x ∷ xs) (from a) h = omega (arith, few-from n x xs a (λ z m. h z (Memᴰ.tail m)) (h x (Memᴰ.head refl)))

module _ (b : ℕ) (flags ts : List ℕ) where
  -- its parts, line by line
  pub text-sum : length (automaton_text b flags ts)
      ≡ length (states_line (length flags)) + length (lines start_of 0 flags) + length (ap_line b) + length (lines (block_of b ts) 0 flags) + 113
  unfolding automaton_text
  text-sum = simp length-append (omega arith)

  pub text-length : ((t : ℕ) → Memᴰ t ts → source_of t < length flags)
      → length (automaton_text b flags ts)
      ≡ length (states_line (length flags)) + length (lines start_of 0 flags) + length (ap_line b) + length (lines state_of 0 flags) + length (lines (edge_of b) 0 ts) + 113
  text-length h = omega (arith, text-sum, blocks-length b ts flags h)

  -- every table that row 15 lets through
  module _ (four : b ≤ 4) (few : length flags ≤ 65536) (source : (t : ℕ) → Memᴰ t ts → source_of t < length flags) where
    start-line : (i f : ℕ) → i ≤ 65536 → length (start_of i f) ≤ 13
    unfolding start_of
    start-line i f h = bif (bit f 0) (λ t. rw t (start-short i h)) (λ t. rw t (omega arith))

    pub starts-bound : length (lines start_of 0 flags) ≤ 13 * length flags
    starts-bound = lines-length start_of 13 0 flags (λ j l. start-line (0 + j) (get_or flags j 0) (omega arith))

    pub states-bound : length (lines state_of 0 flags) ≤ 17 * length flags
    states-bound = lines-length state_of 17 0 flags (λ j l. state-short (0 + j) (bit (get_or flags j 0) 1) (omega arith))

    pub edges-bound : length (lines (edge_of b) 0 ts) ≤ 20 * length ts
    edges-bound = lines-length (edge_of b) 20 0 ts (λ j l. edge-short b (letter_of_lem (get_or ts j 0)) (target_of (get_or ts j 0)) four (omega arith))

    -- MULGREDDI_HOA_BOUND
    pub text-bound : length (automaton_text b flags ts) ≤ 30 * length flags + 20 * length ts + 153
    text-bound =
        omega (arith, text-length source, starts-bound, states-bound, edges-bound, states-length (length flags), word-short (length flags) few, ap-length b four)
