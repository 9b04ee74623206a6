-- The states whose entry a set satisfies.
use Rattle.std.specs.Prelude.{◌&&◌, List, [], ◌∷◌, ℕ, get_or}
use Rattle.sets.specs.Masks.{bit, mask}
use Rattle.theory.specs.Rule.{Rule, entry, satisfies}
use Rattle.theory.specs.Passing.{Passing}
use Rattle.theory.specs.Word.{WordOver}
use Rattle.rule_entries.specs.Starts.{EntryStarts}

-- the states among the given whose entry at the letter a the set satisfies
unfoldable pub met_by_lem : Rule → ℕ → ℕ → ℕ → ℕ
met_by_lem r a set states = mask 8 (λ q. bit states q && satisfies r.n (bit set) (entry r q a))

-- the masks of a lead-in, put in front of the masks ms of what follows it
unfoldable pub back_over : Rule → List ℕ → List ℕ → List ℕ
back_over r [] ms = ms
back_over r (a ∷ lead) ms = let t = back_over r lead ms in mask r.n (λ q. satisfies r.n (bit (get_or t 0 0)) (entry r q a)) ∷ t

-- a rule that passes every check, the starts of its entries, and a cycle of its letters
pub record CycleReady (r : Rule) (starts cycle : List ℕ) : Type 0 where
  pub passing : Passing r
  pub beginnings : EntryStarts r.counts starts
  pub word : WordOver r.s [] cycle
