-- Words as spellings of endless sequences of letters, and the tidy spelling of a sequence.
use Rattle.std.specs.Prelude.{◌≡◌, List, ℕ, ◌≤◌, ◌<◌, length}
use Rattle.theory.specs.Word.{letters}

-- 02: "Two words are from now on the same if they agree at every step": steps without end, words of any length
abbrev pub Agree : List ℕ → List ℕ → List ℕ → List ℕ → Type 0
Agree lead₁ cycle₁ lead₂ cycle₂ = (i : ℕ) → letters lead₁ cycle₁ i ≡ letters lead₂ cycle₂ i

-- a word that spells the sequence w: its letters agree with w at every step
pub record Spells (w : ℕ → ℕ) (lead cycle : List ℕ) : Type 0 where
  pub repeats : 0 < length cycle
  pub agrees : (i : ℕ) → letters lead cycle i ≡ w i

-- 02: "the tidy spelling: the shortest cycle, then the shortest lead-in"
pub record Tidy (w : ℕ → ℕ) (lead cycle : List ℕ) : Type 0 where
  pub spells : Spells w lead cycle
  -- no spelling has a shorter cycle
  pub shortest_cycle : (l c : List ℕ) → Spells w l c → length cycle ≤ length c
  -- none with a cycle of that length has a shorter lead-in
  pub shortest_lead : (l c : List ℕ) → Spells w l c → length c ≡ length cycle → length lead ≤ length l
