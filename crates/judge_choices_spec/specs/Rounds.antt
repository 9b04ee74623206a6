-- What the code that writes the choices keeps: the states tried at one place, one round over places, rounds until nothing changes.
use Rattle.std.specs.Prelude.{◌≡◌, ◌⊎◌, Bool, false, ◌&&◌, ◌||◌, not, cond, Option, None, Some, List, ℕ, suc, ◌+◌, ◌*◌, ◌^◌, ◌≤◌, ◌<◌, eqb, length, get_or, set}
use Rattle.sets.specs.Tests.{Set}
use Rattle.sets.specs.Masks.{bit, mask}
use Rattle.theory.specs.Rule.{Rule, entry, satisfies}
use Rattle.theory.specs.Components.{component}
use Rattle.theory.specs.Passing.{Passing}
use Rattle.theory.specs.Word.{places, next_place_lem, letter_at_lem, WordOver}
use Rattle.theory.specs.Truth.{truth_masks}
use Rattle.rule_entries.specs.Met.{met_of}
use Rattle.rule_entries.specs.Starts.{EntryStarts}
use Rattle.judge_choices_spec.specs.ChoicesComputed.{number_of, aim_of, nearer, near_at, choice_at}

-- for each state the mask of its component
pub record Classes (r : Rule) (classes : List ℕ) : Type 0 where
  pub at : (q : ℕ) → q < r.n → get_or classes q 0 ≡ mask r.n (λ x. eqb (component r x) (component r q))

-- a rule that passes every check with its tables, and a word of at most 64 places with its truth masks
pub record Ready (r : Rule) (starts classes lead cycle masks : List ℕ) : Type 0 where
  pub passing : Passing r
  pub beginnings : EntryStarts r.counts starts
  pub components : Classes r classes
  pub word : WordOver r.s lead cycle
  pub few_places : places lead cycle ≤ 64
  pub truths : masks ≡ truth_masks r lead cycle

-- the choices with the number of the clause met put at index i
unfoldable pub put_met : Option ℕ → ℕ → List ℕ → List ℕ
put_met (Some j) i choices = set choices i j
put_met None i choices = choices

-- the number of the clause of state q at letter a that is met by the mask all outside q's component and by the mask near inside it
abbrev pub met_number : Rule → ℕ → ℕ → ℕ → ℕ → ℕ
met_number r a all near q = number_of (met_of (aim_of r all near q) (entry r q a))

-- the states tried at letter a, those of them that meet a clause, and the choices, from index base on, before and after
pub record Tried (r : Rule) (a all near states base : ℕ) (old new : List ℕ) (found : ℕ) : Type 0 where
  pub long : length new ≡ length old
  pub low : found < 2 ^ r.n
  pub those : (q : ℕ) → bit found q ≡ (bit states q && satisfies r.n (bit (aim_of r all near q)) (entry r q a))
  pub here : (q : ℕ) → q < r.n → get_or new (base + q) 0 ≡ cond (bit found q) (met_number r a all near q) (get_or old (base + q) 0)
  pub others : (i : ℕ) → (i < base) ⊎ (base + r.n ≤ i) → get_or new i 0 ≡ get_or old i 0

module _ (r : Rule) (lead cycle masks : List ℕ) where
  -- the clause number of q at place p, from the masks near of the round before
  abbrev pub round_number : List ℕ → ℕ → ℕ → ℕ
  round_number near p q = met_number r (letter_at_lem lead cycle p) (get_or masks (next_place_lem lead cycle p) 0) (get_or near (next_place_lem lead cycle p) 0) q

  -- q at place p is not in the masks near, and is a round later
  unfoldable pub fresh : List ℕ → ℕ → ℕ → Bool
  fresh near p q = not (bit (get_or near p 0) q) && bit (nearer r lead cycle masks (get_or near (next_place_lem lead cycle p) 0) p) q

  -- the choices of an accepting state are written at the places before k
  pub record Started (k : ℕ) (old new : List ℕ) : Type 0 where
    pub long : length new ≡ length old
    pub done : (p q : ℕ) → p < k → q < r.n → get_or new (p * r.n + q) 0 ≡ cond (bit (get_or masks p 0) q && bit r.accepting q) (choice_at r lead cycle masks p q) (get_or old (p * r.n + q) 0)
    pub rest : (i : ℕ) → k * r.n ≤ i → get_or new i 0 ≡ get_or old i 0

  -- one place of a round
  pub record Place (near : List ℕ) (p : ℕ) (old new : List ℕ) (found : ℕ) : Type 0 where
    pub long : length new ≡ length old
    pub low : found < 2 ^ r.n
    pub those : (q : ℕ) → q < r.n → bit found q ≡ fresh near p q
    pub here : (q : ℕ) → q < r.n → get_or new (p * r.n + q) 0 ≡ cond (fresh near p q) (round_number near p q) (get_or old (p * r.n + q) 0)
    pub others : (i : ℕ) → (i < p * r.n) ⊎ (p * r.n + r.n ≤ i) → get_or new i 0 ≡ get_or old i 0

  -- a round at the places that done tells: the masks near before and after, the choices before and after, and the places where a state is new
  pub record Round (near : List ℕ) (done : Set) (old new after : List ℕ) (changed : ℕ) : Type 0 where
    pub long : length new ≡ length old
    pub few : changed < 2 ^ places lead cycle
    pub low : (p : ℕ) → p < places lead cycle → get_or after p 0 < 2 ^ r.n
    pub grown : (p q : ℕ) → p < places lead cycle → q < r.n → bit (get_or after p 0) q ≡ (bit (get_or near p 0) q || (done p && fresh near p q))
    pub at : (p q : ℕ) → p < places lead cycle → q < r.n
        → get_or new (p * r.n + q) 0 ≡ cond (done p && fresh near p q) (round_number near p q) (get_or old (p * r.n + q) 0)
    pub rest : (i : ℕ) → places lead cycle * r.n ≤ i → get_or new i 0 ≡ get_or old i 0
    pub still : (p q : ℕ) → p < places lead cycle → q < r.n → bit changed p ≡ false → (done p && fresh near p q) ≡ false

  -- after d rounds: the states of distance at most d have their choices, and at the places outside work the next round has no new state
  pub record Rounds (d : ℕ) (near : List ℕ) (work : ℕ) (old new : List ℕ) : Type 0 where
    pub long : length new ≡ length old
    pub few : work < 2 ^ places lead cycle
    pub within : (p : ℕ) → p < places lead cycle → get_or near p 0 ≡ near_at r lead cycle masks d p
    pub at : (p q : ℕ) → p < places lead cycle → q < r.n
        → get_or new (p * r.n + q) 0 ≡ cond (bit (near_at r lead cycle masks d p) q) (choice_at r lead cycle masks p q) (get_or old (p * r.n + q) 0)
    pub rest : (i : ℕ) → places lead cycle * r.n ≤ i → get_or new i 0 ≡ get_or old i 0
    pub quiet : (p : ℕ) → p < places lead cycle → bit work p ≡ false → near_at r lead cycle masks (suc d) p ≡ near_at r lead cycle masks d p

  -- after all rounds: every true pair of a rejecting state has its choice
  pub record Ended (old new : List ℕ) : Type 0 where
    pub long : length new ≡ length old
    pub at : (p q : ℕ) → p < places lead cycle → q < r.n
        → get_or new (p * r.n + q) 0 ≡ cond (bit (get_or masks p 0) q && not (bit r.accepting q)) (choice_at r lead cycle masks p q) (get_or old (p * r.n + q) 0)
    pub rest : (i : ℕ) → places lead cycle * r.n ≤ i → get_or new i 0 ≡ get_or old i 0
