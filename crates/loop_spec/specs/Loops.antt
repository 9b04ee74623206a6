-- Mixed loops: closed walks over leads-to steps that pass both kinds of states, and the one that is reported.
use Rattle.std.specs.Prelude.{◌≡◌, Bool, true, false, ◌&&◌, ◌||◌, not, List, [], ◌∷◌, ℕ, ◌≤◌, eqb, ltb, length}
use Rattle.sets.specs.Tests.{Set}
use Rattle.sets.specs.Masks.{bit}
use Rattle.sets.specs.Lists.{any_of, all_of, among}
use Rattle.theory.specs.Rule.{Rule}
use Rattle.theory.specs.Components.{leads}

-- q leads to the first of the states, each of them to the next, and the last to t
unfoldable pub along : (ℕ → Set) → ℕ → List ℕ → ℕ → Bool
along lead q [] t = lead q t
along lead q (p ∷ ps) t = lead q p && along lead p ps t

-- the states of the list are below n
unfoldable pub all_below : ℕ → List ℕ → Bool
all_below n ps = all_of ps (λ p. ltb p n)

-- a state stands twice in the list
unfoldable pub repeats : List ℕ → Bool
repeats [] = false
repeats (p ∷ ps) = among ps p || repeats ps

-- 02: "compared number by number": the first list is the second, or less
unfoldable pub at_most : List ℕ → List ℕ → Bool
at_most [] ys = true
at_most (x ∷ xs) [] = false
at_most (x ∷ xs) (y ∷ ys) = ltb x y || (eqb x y && at_most xs ys)

module _ (r : Rule) where
  -- 02: "closed walk over leads-to steps", "its first state not repeated at the end":
  -- a non-empty list of states, of any length; each leads to the next, and the last to the first
  unfoldable pub is_closed_walk : List ℕ → Bool
  is_closed_walk [] = false
  is_closed_walk (q ∷ ps) = all_below r.n (q ∷ ps) && along (leads r) q ps q

  -- "that passes an accepting and a rejecting state"
  unfoldable pub passes_both : List ℕ → Bool
  passes_both ps = any_of ps (λ q. bit r.accepting q) && any_of ps (λ q. not (bit r.accepting q))

  unfoldable pub is_mixed_loop : List ℕ → Bool
  is_mixed_loop ps = is_closed_walk ps && passes_both ps

  -- 02: "the fewest-step closed walk over leads-to steps that passes an accepting and a rejecting state"
  pub record Shortest (ps : List ℕ) : Type 0 where
    pub loop : is_mixed_loop ps ≡ true
    pub fewest : (qs : List ℕ) → is_mixed_loop qs ≡ true → length ps ≤ length qs

  -- 02: "Among shortest ones it gives the least list of states, beginning wherever that list is least"
  -- (a closed walk may begin at each of its states: `rotated` in proofs/Walks)
  -- "A rule without a mixed component answers none."
  pub data Reported : List ℕ → Type 0 where
    none : ((qs : List ℕ) → is_mixed_loop qs ≡ false) → Reported []
    loop : {ps : List ℕ} → Shortest ps → ((qs : List ℕ) → Shortest qs → at_most ps qs ≡ true) → Reported ps
