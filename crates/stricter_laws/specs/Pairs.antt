-- The product of two tables A and B as a graph: number i of A and number j of B, of nb numbers, are the node i * nb + j.
use Rattle.std.specs.Prelude.{◌≡◌, ℕ, ◌+◌, ◌*◌, ◌≤◌, ◌<◌, length, get_or}
use mathlib.Core.List.{List, Memᴰ}
use Rattle.sets.specs.Lists.{Ascending}
use Rattle.slice_search.specs.Places.{below}
use Rattle.theory.specs.Run.{source_of, letter_of_lem, target_of}

module _ (nb : ℕ) (moves_a moves_b : List ℕ) where
  -- the pair x goes over the letter a to the pair y: by a transition of each table
  pub record PairStep (x a y : ℕ) : Type 0 where
    pub of_a : ℕ
    pub of_b : ℕ
    pub listed_a : Memᴰ of_a moves_a
    pub listed_b : Memᴰ of_b moves_b
    pub letter_a : letter_of_lem of_a ≡ a
    pub letter_b : letter_of_lem of_b ≡ a
    pub source : x ≡ source_of of_a * nb + source_of of_b
    pub target : y ≡ target_of of_a * nb + target_of of_b

  abbrev pub PairEdge : ℕ → ℕ → Type 0
  PairEdge x y = (a : ℕ) × PairStep x a y

  -- what the steps of pairs ask of two tables whose pairs are below size
  pub record Paired (size : ℕ) : Type 0 where
    pub ascend_a : Ascending moves_a
    pub ascend_b : Ascending moves_b
    pub lettered : (u : ℕ) → Memᴰ u moves_b → letter_of_lem u < 16
    pub sources : (u : ℕ) → Memᴰ u moves_b → source_of u < nb
    pub targets : (u : ℕ) → Memᴰ u moves_b → target_of u < nb
    pub from : (t q : ℕ) → Memᴰ t moves_a → q < nb → source_of t * nb + q < size
    pub onto : (t q : ℕ) → Memᴰ t moves_a → q < nb → target_of t * nb + q < size

-- two tables of na and nb numbers, and a mark for each pair
pub record Fits (na nb : ℕ) (moves_a moves_b marks : List ℕ) : Type 0 where
  pub paired : Paired nb moves_a moves_b (na * nb)
  pub marked : length marks ≡ na * nb
  pub few_a : na ≤ 65536
  pub few_b : nb ≤ 65536

-- the transitions of number i over letter a stand from place cuts a up to cuts (a + 1)
abbrev pub RowCut : List ℕ → ℕ → List ℕ → Type 0
RowCut moves i cuts = (a : ℕ) → a < 17 → get_or cuts a 0 ≡ below (i * 16777216 + a * 65536) moves

-- the transitions of A from place `from` up to `to` lead, beside number q of B, to such nodes
pub record Beside (nb : ℕ) (moves_a : List ℕ) (from to q y : ℕ) : Type 0 where
  pub place : ℕ
  pub above : from ≤ place
  pub under : place < to
  pub node : y ≡ target_of (get_or moves_a place 0) * nb + q
