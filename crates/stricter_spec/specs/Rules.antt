-- When a rule is stricter than another, by 01's acceptance through plans.
use Rattle.std.specs.Prelude.{List, ℕ}
use Rattle.theory.specs.Plan.{AcceptsWord}
use Rattle.theory.specs.Rule.{Rule}
use Rattle.theory.specs.Word.{WordOver}

-- 02: "does every word that rule A accepts pass rule B?": every word over the letters, with any lead-in and any cycle but the empty one.
-- "Both need the same s": the letters are those of either.
abbrev pub Stricter : Rule → Rule → Type 0
Stricter a b = (lead cycle : List ℕ) → WordOver a.s lead cycle → AcceptsWord a lead cycle → AcceptsWord b lead cycle

-- 02: "a word accepted by A and rejected by B. The word may be longer than 32."
pub record Against (a b : Rule) (lead cycle : List ℕ) : Type 0 where
  pub word : WordOver a.s lead cycle
  pub accepted : AcceptsWord a lead cycle
  pub rejected : AcceptsWord b lead cycle → ⊥
