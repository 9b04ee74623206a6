-- Where an accepting run of a table over a word begins.
use Rattle.std.specs.Prelude.{◌≡◌, true, false, ◌&&◌, List, ℕ, ◌<◌, ◌≤◌, ltb, get_or}
use Rattle.sets.specs.Tests.{Set}
use Rattle.theory.specs.Macrostate.{begun}
use Rattle.theory.specs.Run.{AcceptingRun}
use Rattle.theory.specs.Word.{letters}

-- an accepting run of the table over the word begins at number m; start is the start condition
abbrev pub Begins : Set → List ℕ → List ℕ → List ℕ → List ℕ → ℕ → Type 0
Begins start codes transitions lead cycle m = (x : ℕ → ℕ) × (x 0 ≡ m) × AcceptingRun codes transitions start (letters lead cycle) x

-- the lowest of n numbers where one begins, or n
pub record Earliest (n : ℕ) (begins : ℕ → Type 0) (m : ℕ) : Type 0 where
  pub most : m ≤ n
  pub found : m < n → begins m
  pub none : (l : ℕ) → l < m → begins l → ⊥
  pub within : (l : ℕ) → begins l → l < n

-- the lowest of n numbers that passes a test, or n
pub record Lowest (n : ℕ) (test : Set) (m : ℕ) : Type 0 where
  pub most : m ≤ n
  pub none : (l : ℕ) → l < m → test l ≡ false
  pub found : m < n → test m ≡ true

-- number m is marked, and its macrostate is one where a run may begin
unfoldable pub starts_at : Set → List ℕ → List ℕ → Set
starts_at start codes marks m = ltb 0 (get_or marks m 0) && begun start (get_or codes m 0)
