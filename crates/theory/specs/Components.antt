-- Leads-to, and the components of a rule.
use Rattle.std.specs.Prelude.{◌≡◌, Bool, true, false, ◌&&◌, ◌||◌, List, [], ◌∷◌}
use Rattle.std.proofs.Math.Bool.{not}
use Prim.Native.Nat.{ℕ, zero, suc, ◌<◌}
use Rattle.std.proofs.Math.Dec.{eqb}
use Rattle.sets.specs.Tests.{Set, some_below, count, first}
use Rattle.sets.specs.Masks.{bit, mask}
use Rattle.theory.specs.Rule.{Rule, entry}

-- q is in some clause of the entry
unfoldable pub named : List ℕ → Set
unfolding bit
named [] q = false
named (c ∷ cs) q = bit c q || named cs q

module _ (r : Rule) where
  -- 01: "State q leads to q' if q' is in some clause of q, at any letter."
  unfoldable pub leads : ℕ → ℕ → Bool
  unfolding some_below named entry
  leads q p = some_below r.s (λ a. named (entry r q a) p)

  -- "lead to .. over some number of steps, zero included"
  pub data LeadsTo : ℕ → ℕ → Type 0 where
    here : {q : ℕ} → LeadsTo q q
    step : {q p t : ℕ} → LeadsTo q p → t < r.n → leads p t ≡ true → LeadsTo q t

  -- 01: "Components are the classes of states that lead to each other"
  pub record Together (q p : ℕ) : Type 0 where
    pub there : LeadsTo q p
    pub back : LeadsTo p q

  -- Leads-to, computed: the mask of the states that q leads to in at most k steps. `LeadsTo` is this in n steps (theory_laws/proofs/Components: leads-to-iff).
  unfoldable pub within : ℕ → ℕ → ℕ
  unfolding mask bit some_below leads
  within zero q = mask r.n (λ p. eqb q p)
  within (suc k) q = let m = within k q in mask r.n (λ p. bit m p || some_below r.n (λ t. bit m t && leads t p))

  unfoldable pub reaches : ℕ → ℕ → Bool
  unfolding within bit
  reaches q p = bit (within r.n q) p

  unfoldable pub together : ℕ → ℕ → Bool
  unfolding reaches
  together q p = reaches q p && reaches p q

  -- the smallest state of q's component
  unfoldable pub smallest : ℕ → ℕ
  unfolding first together
  smallest q = first r.n (λ p. together q p) 0

  unfoldable pub is_smallest : ℕ → Bool
  unfolding smallest
  is_smallest p = eqb (smallest p) p

  -- 01: components "are numbered 0, 1, 2 and on, in rising order of their smallest states": the number of q's component
  unfoldable pub component : ℕ → ℕ
  unfolding count is_smallest smallest
  component q = count (smallest q) is_smallest

  -- how many components there are
  unfoldable pub components : ℕ
  unfolding count is_smallest
  components = count r.n is_smallest

  -- "a mixed component": an accepting and a rejecting state that lead to each other
  unfoldable pub mixed : Bool
  unfolding some_below together bit
  mixed = some_below r.n (λ q. some_below r.n (λ p. together q p && (bit r.accepting q && not (bit r.accepting p))))
