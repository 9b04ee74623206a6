-- The lines of a table, one macrostate and one transition at a time.
use mathlib.Core.Path.{◌≡◌, sym, ◌∙◌, ap, ap₂}
use mathlib.Core.Bool.{Bool, true, false, cond}
use mathlib.Core.List.{List, [], ◌++◌}
use mathlib.Core.Logic.{by_cases}
use Prim.Native.Nat.{ℕ, ◌+◌, ◌-◌, ◌/◌, ◌≤◌, ◌<◌}
use native.Mathlib.Omega.{arith}
use native.Mathlib.Decide.{ℕ_discrete}
use lib.ListN.{length, take, drop, get_or, length-drop}
use lib.Seq.{length-take-le, get_or-take, get_or-drop}
use Rattle.sets.specs.Tests.{Set}
use Rattle.theory.specs.Macrostate.{is_accepting_lem}
use Rattle.theory.specs.Run.{source_of}
use Rattle.listing_lines_spec.specs.Lines.{lines}
use Rattle.table_lent.specs.Lent.{words_in}
use Rattle.table_lent.proofs.Reading.{words-in-length}
use Rattle.hoa_spec.specs.Lines.{states_line, start_line, state_line}
use Rattle.hoa_spec.specs.Text.{flags_of, start_of, state_of, edge_of, leaving, block_of}
use Rattle.hoa_laws.proofs.Flags.{flags-length, initial-at, accepting-at}
use Rattle.hoa_laws.proofs.Lengths.{start-short}

-- ---- macrostates

module _ (initial : Set) (codes : List ℕ) where
  -- the flags of codes that are lent in bytes
  pub flags-count : length (flags_of initial (words_in codes)) ≡ length codes / 8
  flags-count = flags-length initial (words_in codes) ∙ words-in-length codes

  module _ (i : ℕ) (h : i < length codes / 8) where
    inside : i < length (words_in codes)
    inside = omega (arith, words-in-length codes)

    pub start_is : (b : Bool) → b ≡ initial (get_or (words_in codes) i 0) → cond b (start_line i) [] ≡ start_of i (get_or (flags_of initial (words_in codes)) i 0)
    unfolding start_of
    start_is b e = ap (λ (x : Bool). cond x (start_line i) []) (e ∙ sym (initial-at initial (words_in codes) i inside))

    pub state-is : (b : Bool) → b ≡ is_accepting_lem (get_or (words_in codes) i 0) → state_line i b ≡ state_of i (get_or (flags_of initial (words_in codes)) i 0)
    state-is b e = ap (state_line i) (e ∙ sym (accepting-at initial (words_in codes) i inside))

    pub block-is : (n : ℕ) (ts part : List ℕ) (b : Bool) → b ≡ is_accepting_lem (get_or (words_in codes) i 0) → leaving ts i ≡ part
        → state_line i b ++ lines (edge_of n) 0 part ≡ block_of n ts i (get_or (flags_of initial (words_in codes)) i 0)
    unfolding block_of
    block-is n ts part b e l = ap₂ (λ (x y : List ℕ). x ++ lines (edge_of n) 0 y) (state-is b e) (sym l)

-- the start line of a macrostate, or nothing
pub start-room : (b : Bool) (i : ℕ) → i ≤ 65536 → length (cond b (start_line i) []) ≤ 13
start-room true i h = start-short i h
start-room false i h = omega arith

-- ---- transitions

-- one more transition from number i
pub stretch-more : (ts : List ℕ) (i j k : ℕ) → ((p : ℕ) → j ≤ p → p < k → source_of (get_or ts p 0) ≡ i) → source_of (get_or ts k 0) ≡ i
    → (p : ℕ) → j ≤ p → p < k + 1 → source_of (get_or ts p 0) ≡ i
stretch-more ts i j k h e p l m = by_cases (ℕ_discrete p k) (λ q. ap (λ (x : ℕ). source_of (get_or ts x 0)) q ∙ e) (λ n. h p l (omega arith))

module _ (ts : List ℕ) (j k : ℕ) (h : j ≤ k) (l : k ≤ length ts) where
  pub part_length : length (take (k - j) (drop j ts)) ≡ k - j
  part_length = length-take-le (k - j) (drop j ts) (omega (arith, length-drop j ts))

  pub part_at : (i : ℕ) → j ≤ i → i < k → get_or (take (k - j) (drop j ts)) (i - j) 0 ≡ get_or ts i 0
  part_at i f g =
      let e : j + (i - j) ≡ i = omega arith in
      get_or-take (k - j) (drop j ts) (i - j) 0 (omega arith) ∙ get_or-drop j ts (i - j) 0 ∙ ap (λ (x : ℕ). get_or ts x 0) e

-- ---- the whole text

-- the states line of codes that are lent in bytes
pub states-is : (initial : Set) (codes : List ℕ) → states_line (length (flags_of initial (words_in codes))) ≡ states_line (length codes / 8)
states-is initial codes = ap states_line (flags-count initial codes)
