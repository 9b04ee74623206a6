-- The report, computed: the least length of a mixed loop, the smallest state where one of it begins, then always the smallest next state.
-- It is what `Reported` says (proofs/Reported: reported, one-report).
use Rattle.std.specs.Prelude.{Bool, false, ◌&&◌, ◌||◌, cond, List, [], ◌∷◌, ℕ, zero, suc, ◌^◌, ltb, get_or}
use Rattle.sets.specs.Tests.{Set, some_below, first}
use Rattle.sets.specs.Masks.{bit, mask, exclusive}
use Rattle.theory.specs.Rule.{Rule}
use Rattle.rule_reach.specs.Tables.{successors_of}
use Rattle.loop_spec.specs.declared.Ways.{Ways}

-- q leads to p, by the masks of the states that each state leads to
abbrev pub leads_by : List ℕ → ℕ → Set
leads_by es q p = bit (get_or es q 0) p

-- the states below n of the other kind than t
unfoldable pub others_of_lem : ℕ → ℕ → ℕ → ℕ
others_of_lem n accepting t = mask n (λ p. exclusive (bit accepting t) (bit accepting p))

-- n states, and for each the mask of the states that it leads to
module _ (n : ℕ) (es : List ℕ) where
  -- the states that lead to a state of m
  unfoldable pub sources : ℕ → ℕ
  sources m = mask n (λ q. some_below n (λ p. leads_by es q p && bit m p))

  -- the states from which a walk leads to t, and those from which one does that passes a state of the other kind than t
  module _ (other : Set) where
    -- by one step more
    unfoldable pub step_back_lem : Ways → Ways
    step_back_lem w =
        let any = sources w.any in
        let mixed = sources w.mixed in
        record { any = any; mixed = mask n (λ q. bit mixed q || (bit any q && other q)) }

    -- by k steps
    unfoldable pub ways : ℕ → ℕ → Ways
    ways t zero = record { any = 2 ^ t; mixed = 0 }
    ways t (suc k) = step_back_lem (ways t k)

    -- those among them that serve, by whether a state of the other kind was passed before
    abbrev pub way_by : ℕ → ℕ → Bool → ℕ
    way_by t k passed = let w = ways t k in cond passed w.any w.mixed

    -- the least list of q and k states after it that lead on to t; one of them is of the other kind, or such a state was passed before
    unfoldable pub route : ℕ → ℕ → Bool → ℕ → List ℕ
    route t zero passed q = q ∷ []
    route t (suc k) passed q =
        let now = passed || other q in
        let m = way_by t (suc k) now in
        q ∷ route t k now (first n (λ p. leads_by es q p && bit m p) 0)

  module _ (accepting : ℕ) where
    -- a mixed loop of t and k more states begins at t
    unfoldable pub begins : ℕ → Set
    begins k t = bit (ways (bit (others_of_lem n accepting t)) t (suc k)).mixed t

    -- how many states the shortest mixed loops have after their first; n where there is none
    unfoldable pub further : ℕ
    further = first n (λ k. some_below n (begins k)) 0

    unfoldable pub loop_by : List ℕ
    loop_by =
        let k = further in
        let t = first n (begins k) 0 in
        cond (ltb k n) (route (bit (others_of_lem n accepting t)) t k false t) []

-- the states of the reported loop of a rule; [] for none
unfoldable pub loop_of : Rule → List ℕ
loop_of r = loop_by r.n (successors_of r) r.accepting
