-- Runs of a table from any number on, with no start condition, and the marks of the numbers where an accepting one begins.
use Rattle.std.specs.Prelude.{◌≡◌, true, cond, ◌&&◌, ◌↔◌, ◌⊎◌, ℕ, suc, ◌+◌, ◌*◌, ◌%◌, ◌<◌, ◌≤◌, eqb, ltb, length, get_or, set, drop}
use mathlib.Core.List.{List, [], ◌∷◌, Memᴰ}
use Rattle.theory.specs.Macrostate.{is_accepting_lem}
use Rattle.theory.specs.Run.{source_of, letter_of_lem, target_of, Leads}
use Rattle.theory.specs.Word.{places, letters}
use Rattle.graph_walks.specs.Walks.{Walk, Toward}

module _ (codes transitions : List ℕ) where
  -- an accepting run over the letters w, but for where it begins
  pub record Track (w x : ℕ → ℕ) : Type 0 where
    pub within : (i : ℕ) → x i < length codes
    pub moves : (i : ℕ) → (t : ℕ) × Memᴰ t transitions × Leads t (x i) (w i) (x (suc i))
    pub again : (i : ℕ) → (j : ℕ) × (i < j) × (is_accepting_lem (get_or codes (x j) 0) ≡ true)

  -- one begins at number m, over the letters of a word
  abbrev pub TrackFrom : List ℕ → List ℕ → ℕ → Type 0
  TrackFrom lead cycle m = (x : ℕ → ℕ) × (x 0 ≡ m) × Track (letters lead cycle) x

  -- from each place p of the lead-in on, and at the cycle's first, number m is marked exactly if an accepting run goes on from it over what is left of the word
  pub record Tracked (lead cycle marks : List ℕ) : Type 0 where
    pub marked : (p m : ℕ) → p < suc (length lead) → m < length codes → (0 < get_or marks (p * length codes + m) 0) ↔ TrackFrom (drop p lead) cycle m

-- a table whose transitions have their sources and targets among its codes, a word, and a mark for each number and place
pub record WordReady (codes transitions lead cycle marks : List ℕ) : Type 0 where
  pub repeats : 0 < length cycle
  pub marked : length marks ≡ length codes * places lead cycle
  pub sources : (t : ℕ) → Memᴰ t transitions → source_of t < length codes
  pub targets : (t : ℕ) → Memᴰ t transitions → target_of t < length codes

-- the mark of a node, by its code, if it is in
unfoldable pub flag_of_lem : ℕ → ℕ
flag_of_lem code = cond (is_accepting_lem code) 2 1

-- node x gets the mark of its code, if it is in
unfoldable pub flagged_at : List ℕ → ℕ → List ℕ → List ℕ
flagged_at codes x marks = cond (eqb (get_or marks x 0) 0) marks (set marks x (flag_of_lem (get_or codes (x % length codes) 0)))

-- marks of a cycle's nodes, by the codes of their numbers: x is the node of number x % n
pub record Flagged (codes old new : List ℕ) : Type 0 where
  pub long : length new ≡ length old
  pub outside : (x : ℕ) → get_or old x 0 ≡ 0 → get_or new x 0 ≡ 0
  pub inside : (x : ℕ) → (get_or old x 0 ≡ 0 → ⊥) → get_or new x 0 ≡ flag_of_lem (get_or codes (x % length codes) 0)

-- the nodes that are in have the marks of their codes
abbrev pub Flags : List ℕ → List ℕ → Type 0
Flags codes marks = (x : ℕ) → (get_or marks x 0 ≡ 0) ⊎ (get_or marks x 0 ≡ flag_of_lem (get_or codes (x % length codes) 0))

-- the mark 2 for every node that is in
unfoldable pub raised : ℕ → ℕ
raised v = cond (eqb v 0) 0 2

pub record Raised (old new : List ℕ) : Type 0 where
  pub long : length new ≡ length old
  pub each : (x : ℕ) → get_or new x 0 ≡ raised (get_or old x 0)

-- what a round begins with: at first the mark 2 for every node that is in, later the marks of the codes
abbrev pub Begun : ℕ → List ℕ → List ℕ → Type 0
Begun round codes marks = ((round ≡ 0) × ((x : ℕ) → (get_or marks x 0 ≡ 0) ⊎ (get_or marks x 0 ≡ 2))) ⊎ Flags codes marks

module _ (E : ℕ → ℕ → Type 0) (codes : List ℕ) where
  -- nodes are taken out, but none on an endless walk that meets accepting codes again and again; the others have the marks of their codes
  pub record Thinned (old new : List ℕ) : Type 0 where
    pub long : length new ≡ length old
    pub each : (x : ℕ) → (get_or new x 0 ≡ 0) ⊎ ((0 < get_or old x 0) × (get_or new x 0 ≡ flag_of_lem (get_or codes (x % length codes) 0)))
    pub keeps : (z : ℕ → ℕ) → Walk E z → ((i : ℕ) → 0 < get_or old (z i) 0)
        → ((i : ℕ) → (j : ℕ) × (i < j) × (is_accepting_lem (get_or codes (z j % length codes) 0) ≡ true)) → (i : ℕ) → 0 < get_or new (z i) 0

  -- and from each that is left a walk along such nodes leads to an accepting one
  pub record Found (old new : List ℕ) : Type 0 where
    pub thinned : Thinned old new
    pub sound : (x : ℕ) → 0 < get_or new x 0 → Toward E new x

-- node x gets the mark 1 if the transition t is one over the letter and leads from it to a marked node
unfoldable pub entered_by : ℕ → ℕ → ℕ → ℕ → List ℕ → List ℕ
entered_by letter here there t marks = cond (eqb (letter_of_lem t) letter && ltb 0 (get_or marks (there + target_of t) 0)) (set marks (here + source_of t) 1) marks

-- one transition after the other
unfoldable pub entered_all : ℕ → ℕ → ℕ → List ℕ → List ℕ → List ℕ
entered_all letter here there [] marks = marks
entered_all letter here there (t ∷ ts) marks = entered_all letter here there ts (entered_by letter here there t marks)

-- a listed transition over the letter leads from number m to a number that is marked, from place `there` of the marks on
abbrev pub LeadsIn : List ℕ → List ℕ → ℕ → ℕ → ℕ → Type 0
LeadsIn transitions marks letter there m = (t : ℕ) × Memᴰ t transitions × (source_of t ≡ m) × (letter_of_lem t ≡ letter) × (0 < get_or marks (there + target_of t) 0)

-- the marks of a lead-in's nodes are made, from its last place to its first; those behind them stay
pub record Entered (n : ℕ) (lead transitions old new : List ℕ) : Type 0 where
  pub long : length new ≡ length old
  pub later : (x : ℕ) → length lead * n ≤ x → get_or new x 0 ≡ get_or old x 0
  pub each : (p m : ℕ) → p < length lead → m < n → (0 < get_or new (p * n + m) 0) ↔ LeadsIn transitions new (get_or lead p 0) (suc p * n) m
