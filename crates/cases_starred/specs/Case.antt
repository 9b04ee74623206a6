-- A case of 01: its file and what is expected of it.
use Rattle.std.specs.Prelude.{Bool, List, ℕ}

-- 01: "An m line: number, code, i if initial, a if accepting." The number is the place of the line.
pub record Line : Type 0 where
  pub code : ℕ
  pub initial : Bool
  pub accepting : Bool

-- what a case says of a run over its word
pub data Start : Type 0 where
  -- nothing
  unsaid : Start
  -- "run from number ..", with the code there: the run goes through the numbers of first, then through those of loop for ever
  from : (number code : ℕ) (first loop : List ℕ) → Start

pub data Expected : Type 0 where
  -- "Line one: macrostates, transitions", then the m lines and the packed transitions
  builds : (codeCount moveCount : ℕ) (lines : List Line) (moves : List ℕ) → Expected
  -- a word, "yes" or "no", the masks, and the run
  judges : (lead cycle : List ℕ) (accepted : Bool) (masks : List ℕ) (start : Start) → Expected

pub record Case : Type 0 where
  pub file : List ℕ
  pub expected : Expected
