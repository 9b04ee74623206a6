-- The choices of a word, computed. judge_choices_place/proofs/Meaning proves them to be those by plans, so what stands here has not to be believed.
use Rattle.std.specs.Prelude.{◌&&◌, not, cond, Option, None, Some, List, ℕ, zero, suc, ◌-◌, ◌*◌, ◌/◌, ◌%◌, get_or}
use Rattle.sets.specs.Tests.{first}
use Rattle.sets.specs.Masks.{bit, mask}
use Rattle.sets.specs.Lists.{tabulate}
use Rattle.theory.specs.Rule.{Rule, entry, satisfies}
use Rattle.theory.specs.Automaton.{automaton}
use Rattle.theory.specs.Core.{mix}
use Rattle.theory.specs.Word.{places, next_place_lem, letter_at_lem}
use Rattle.theory.specs.Truth.{truth_masks}
use Rattle.rule_entries.specs.Met.{met_of}

-- 02: "False pairs get 255."
abbrev pub no_choice : ℕ
no_choice = 255

-- 02: "a clause number, 0 for the entry's first"
unfoldable pub number_of : Option ℕ → ℕ
number_of (Some j) = j
number_of None = no_choice

-- the states of the mask all that are outside q's component, and those of the mask near that are in it
unfoldable pub aim_of : Rule → ℕ → ℕ → ℕ → ℕ
aim_of r all near q = mask r.n (mix (automaton r) q (bit all) (bit near))

-- masks are the truth masks of the word
module _ (r : Rule) (lead cycle masks : List ℕ) where
  -- the states of a true pair at place p: those whose entry is satisfied by the states that are true at the place that follows and,
  -- within the component, are in the mask near
  unfoldable pub nearer : ℕ → ℕ → ℕ
  nearer near p =
      mask r.n (λ q. bit (get_or masks p 0) q
      && (not (bit r.accepting q)
      && satisfies r.n (bit (aim_of r (get_or masks (next_place_lem lead cycle p) 0) near q)) (entry r q (letter_at_lem lead cycle p))))

  -- the rejecting states whose distance at place p is at most d
  unfoldable pub near_at : ℕ → ℕ → ℕ
  near_at zero p = 0
  near_at (suc d) p = nearer (near_at d (next_place_lem lead cycle p)) p

  -- the distance of a rejecting state
  unfoldable pub distance_at : ℕ → ℕ → ℕ
  distance_at p q = first (places lead cycle * r.n) (λ d. bit (near_at d p) q) 0

  -- what the states of the clause have to be among: those that are true at the place that follows, for a rejecting state those of its component with a smaller distance
  unfoldable pub aim_at : ℕ → ℕ → ℕ
  aim_at p q =
      let all = get_or masks (next_place_lem lead cycle p) 0 in
      aim_of r all (cond (bit r.accepting q) all (near_at (distance_at p q - 1) (next_place_lem lead cycle p))) q

  -- the byte of state q at place p
  unfoldable pub choice_at : ℕ → ℕ → ℕ
  choice_at p q = cond (bit (get_or masks p 0) q) (number_of (met_of (aim_at p q) (entry r q (letter_at_lem lead cycle p)))) no_choice

  -- 02: "at byte place × n + state"
  unfoldable pub choices_by : List ℕ
  choices_by = tabulate (places lead cycle * r.n) (λ i. choice_at (i / r.n) (i % r.n)) 0

-- the choices of a word
abbrev pub choices_of : Rule → List ℕ → List ℕ → List ℕ
choices_of r lead cycle = choices_by r lead cycle (truth_masks r lead cycle)
