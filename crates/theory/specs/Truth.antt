-- The masks of the states from which the rule accepts, one a place, computed.
-- theory_laws/proofs/Truth proves each bit equal to acceptance by plans (truth-bit), so what stands here has not to be believed.
use Rattle.std.specs.Prelude.{Bool, cond, List, ℕ, zero, suc, ◌*◌, eqb, get_or}
use Rattle.sets.specs.Tests.{count}
use Rattle.sets.specs.Masks.{bit, mask}
use Rattle.sets.specs.Lists.{tabulate}
use Rattle.theory.specs.Rule.{Rule, entry, satisfies}
use Rattle.theory.specs.Components.{reaches}
use Rattle.theory.specs.Word.{places, next_place_lem, letter_at_lem}

-- how many states q leads to over some number of steps: as many for every state of its component, fewer for the states of a component below
unfoldable pub height_of : Rule → ℕ → ℕ
height_of r q = count r.n (reaches r q)

module _ (r : Rule) (lead cycle : List ℕ) where
  -- the masks ms with the states of height h replaced: f tells them at each place
  unfoldable pub layer : ℕ → (ℕ → ℕ → Bool) → List ℕ → List ℕ
  layer h f ms = tabulate (places lead cycle) (λ p. mask r.n (λ q. cond (eqb (height_of r q) h) (f p q) (bit (get_or ms p 0) q))) 0

  -- d rounds at height h: accepting states are in at first, rejecting ones out;
  -- a round takes the states whose entry the mask at the following place satisfies
  unfoldable pub rounds_at : ℕ → List ℕ → ℕ → List ℕ
  rounds_at h ms zero = layer h (λ p q. bit r.accepting q) ms
  rounds_at h ms (suc d) =
      let t = rounds_at h ms d in
      layer h (λ p q. satisfies r.n (bit (get_or t (next_place_lem lead cycle p) 0)) (entry r q (letter_at_lem lead cycle p))) t

  -- the states of height below h, from the bottom up; the rounds of one height end after as many as there are pairs of a place and a state
  unfoldable pub solved_below : ℕ → List ℕ
  solved_below zero = tabulate (places lead cycle) (λ p. 0) 0
  solved_below (suc h) = rounds_at h (solved_below h) (places lead cycle * r.n)

  -- 01: "per place, the mask of accepting pairs' states"
  unfoldable pub truth_masks : List ℕ
  truth_masks = solved_below (suc r.n)
