-- What the functions that read a part of a text answer and store. Place 0 says that the text does not go on so.
use Rattle.std.specs.Prelude.{◌≡◌, ◌⊎◌, ℕ, suc, ◌+◌, ◌-◌, ◌^◌, ◌≤◌, ◌<◌, length, get_or, drop, replicate}
use mathlib.Core.List.{List, ◌++◌, Memᴰ}
use Rattle.std.proofs.lemmas.List.Edits.{sets}
use Rattle.sets.specs.Masks.{bit}
use Rattle.sets.specs.Lists.{Ascending}
use Rattle.theory.specs.Run.{source_of, letter_of_lem, target_of}
use Rattle.listing_lines_spec.specs.Lines.{lines}
use Rattle.hoa_spec.specs.Text.{start_of, edge_of, block_of}
use Rattle.hoa_spec.specs.Shape.{flags_from, Shaped}
use Rattle.hoa_laws.specs.Took.{NoStart, NoEdge, Leaves}

-- ---- start lines

-- the start lines of the numbers below i, of n, were read up to place r: `starts` has 1 for a number that has one and 0 for another,
-- and those from `last` on have none
pub record Starting (text : List ℕ) (p n i : ℕ) (starts : List ℕ) (last r : ℕ) : Type 0 where
  pub long : length starts ≡ i
  pub each : (j : ℕ) → get_or starts j 0 ≤ 1
  pub beyond : (j : ℕ) → last ≤ j → get_or starts j 0 ≡ 0
  pub reached : 0 < last → get_or starts (last - 1) 0 ≡ 1
  pub high : last ≤ i
  pub within : r ≤ length text
  pub is : drop p text ≡ lines start_of 0 starts ++ drop r text
  pub only : (fs rest : List ℕ) → length fs ≡ n → NoStart rest → drop p text ≡ lines start_of 0 fs ++ rest
      → (drop r text ≡ lines start_of i (drop i fs) ++ rest) × ((j : ℕ) → j < i → bit (get_or fs j 0) 0 ≡ bit (get_or starts j 0) 0)

-- all of them, and the flags are stored as far as there is room
pub record Started (text : List ℕ) (p n accepting : ℕ) (old : List ℕ) (last r : ℕ) (new : List ℕ) : Type 0 where
  pub starts : List ℕ
  pub read : Starting text p n n starts last r
  pub stored : new ≡ sets old 0 (flags_from accepting 0 starts)

-- ---- edge lines

-- the edge lines of transitions from i to one of n numbers were read up to place r; the next one is `low` or higher
pub record Edging (text : List ℕ) (p b n i : ℕ) (edges : List ℕ) (low r : ℕ) : Type 0 where
  pub leaves : (t : ℕ) → Memᴰ t edges → Leaves b n i t
  pub ascending : Ascending edges
  pub below : (t : ℕ) → Memᴰ t edges → t < low
  pub last : (low ≡ 0) ⊎ ((u : ℕ) × Memᴰ u edges × (low ≡ suc u))
  pub within : r ≤ length text
  pub is : drop p text ≡ lines (edge_of b) 0 edges ++ drop r text

-- all edge lines of i, and the transitions are stored from place m on as far as there is room
pub record EdgesOf (text : List ℕ) (p b n i m : ℕ) (old : List ℕ) (count r : ℕ) (new : List ℕ) : Type 0 where
  pub edges : List ℕ
  pub low : ℕ
  pub read : Edging text p b n i edges low r
  pub next : NoEdge (drop r text)
  pub few : count ≤ r
  pub counted : count ≡ m + length edges
  pub stored : new ≡ sets old m edges

pub record TookEdges (text : List ℕ) (p b n i m : ℕ) (old : List ℕ) (count r : ℕ) (new : List ℕ) : Type 0 where
  pub found : 0 < r → EdgesOf text p b n i m old count r new
  pub absent : r ≡ 0 → (edges rest : List ℕ) → ((t : ℕ) → Memᴰ t edges → Leaves b n i t) → Ascending edges → NoEdge rest
      → drop p text ≡ lines (edge_of b) 0 edges ++ rest → ⊥

-- ---- the lines of all macrostates

-- whether i is accepting, where `accepting` numbers below it are: a is how many are after it, and accepting ones come first
abbrev pub Onward : ℕ → ℕ → ℕ → Type 0
Onward accepting i a = (a ≡ accepting) ⊎ ((a ≡ suc i) × (accepting ≡ i))

-- i numbers, of which the first are accepting
abbrev pub accepting_first : ℕ → ℕ → List ℕ
accepting_first accepting i = replicate accepting 2 ++ replicate (i - accepting) 0

-- the lines of the numbers below i, of n, were read up to place r
pub record Blocking (text : List ℕ) (p b n i accepting : ℕ) (moves : List ℕ) (r : ℕ) : Type 0 where
  pub first : accepting ≤ i
  pub source : (t : ℕ) → Memᴰ t moves → source_of t < i
  pub letter : (t : ℕ) → Memᴰ t moves → letter_of_lem t < 2 ^ b
  pub target : (t : ℕ) → Memᴰ t moves → target_of t < n
  pub ascending : Ascending moves
  pub within : r ≤ length text
  pub next : 0 < i → NoEdge (drop r text)
  pub is : drop p text ≡ lines (block_of b moves) 0 (accepting_first accepting i) ++ drop r text

-- all of them, and the transitions are stored as far as there is room
pub record BlocksOf (text : List ℕ) (p b n : ℕ) (old : List ℕ) (accepting count r : ℕ) (new : List ℕ) : Type 0 where
  pub moves : List ℕ
  pub read : Blocking text p b n n accepting moves r
  pub counted : count ≡ length moves
  pub stored : new ≡ sets old 0 moves

pub record TookBlocks (text : List ℕ) (p b n : ℕ) (old : List ℕ) (accepting count r : ℕ) (new : List ℕ) : Type 0 where
  pub found : 0 < r → BlocksOf text p b n old accepting count r new
  pub absent : r ≡ 0 → (fs ts rest : List ℕ) → Shaped b fs ts → length fs ≡ n → NoEdge rest
      → drop p text ≡ lines (block_of b ts) 0 fs ++ rest → ⊥
