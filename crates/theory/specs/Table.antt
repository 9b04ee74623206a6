-- What the lists hold that a build writes: codes ascending, and the transitions between their numbers.
use Rattle.std.specs.Prelude.{◌≡◌, ◌↔◌, ℕ, ◌+◌, ◌*◌, ◌<◌, length, get_or}
use mathlib.Core.List.{List, Memᴰ}
use Rattle.sets.specs.Lists.{Ascending}
use Rattle.sets.specs.Tests.{Set}
use Rattle.theory.specs.Rule.{Rule}
use Rattle.theory.specs.Automaton.{Automaton, automaton}
use Rattle.theory.specs.Macrostate.{holds_initial, Goes, Reachable}

module _ (A : Automaton) where
  -- t is a step over one of s letters from one listed code to another, by their numbers
  pub record Transition (s : ℕ) (codes : List ℕ) (t : ℕ) : Type 0 where
    pub source : ℕ
    pub letter : ℕ
    pub target : ℕ
    pub source_listed : source < length codes
    pub letter_known : letter < s
    pub target_listed : target < length codes
    pub packed : t ≡ source * 16777216 + letter * 65536 + target
    pub steps : Goes A (get_or codes source 0) letter (get_or codes target 0)

-- 01: "codes ascending", "transitions ascending": what two lists hold that list the macrostates of one kind and the transitions between them,
-- "all of them and no others" (demand 2)
pub record Listed (r : Rule) (kind : ℕ → Type 0) (codes transitions : List ℕ) : Type 0 where
  pub codes_ascend : Ascending codes
  pub codes_are : (c : ℕ) → Memᴰ c codes ↔ kind c
  pub transitions_ascend : Ascending transitions
  pub transitions_are : (t : ℕ) → Memᴰ t transitions ↔ Transition (automaton r) r.s codes t

-- the kind: the macrostates reached from those that the start condition lets begin
abbrev pub ListsFrom : Rule → Set → List ℕ → List ℕ → Type 0
ListsFrom r start = Listed r (Reachable (automaton r) r.s start)

-- 01: "reachable codes": the start condition is that the set holds the initial state
abbrev pub ListsReachable : Rule → List ℕ → List ℕ → Type 0
ListsReachable r = ListsFrom r (holds_initial r)
