-- The core before the core of a vector of ranks, over a letter.
use Rattle.std.specs.Prelude.{◌&&◌, ℕ, ◌+◌, ◌*◌, ◌/◌, ◌%◌, ◌^◌, eqb, ltb}
use Rattle.std.proofs.Math.Bool.{cond}
use Rattle.std.proofs.Math.Dec.{leb}
use Rattle.sets.specs.Tests.{Set, largest}
use Rattle.sets.specs.Masks.{mask}
use Rattle.theory.specs.Rule.{satisfies}
use Rattle.theory.specs.Automaton.{Automaton}
use Rattle.theory.specs.Core.{open_of_lem, next_component_lem}
use Rattle.theory.specs.CoreComputed.{level_of, rank_of}
use Rattle.build_cores.specs.Vectors.{rank_at}
use Rattle.build_cores.specs.Parts.{set_of, vector_of}

module _ (A : Automaton) where
  -- the number of the core of a vector: set and ranks, bits 0 to 39 of a code
  unfoldable pub core_of : ℕ → ℕ
  core_of v = v * 2 ^ 8 + mask 8 (set_of A v)

  -- v is the vector of the later core
  module _ (a v : ℕ) where
    -- the set of the earlier core
    unfoldable pub earlier_set : Set
    earlier_set q = ltb q A.n && satisfies A.n (set_of A v) (A.entry q a)

    -- the level of a state
    unfoldable pub earlier_level : ℕ → ℕ
    earlier_level q = level_of A 15 (set_of A v) (rank_at v) q (A.entry q a)

    -- the rank of a state in the earlier core
    unfoldable pub earlier_rank : ℕ → ℕ
    unfolding earlier_set earlier_level
    earlier_rank q = cond (ltb q A.n) (rank_of A earlier_set earlier_level q) 0

    -- its number
    unfoldable pub back_of : ℕ
    unfolding earlier_set earlier_rank
    back_of = vector_of A earlier_rank * 2 ^ 8 + mask 8 earlier_set

    -- 01: "the largest level among its own core's open states of K, no other component's, with rank at most" k
    unfoldable pub level_left : ℕ → ℕ → ℕ
    unfolding earlier_set earlier_level earlier_rank
    level_left K k = largest A.n (λ q. open_of_lem A earlier_set K q && leb (earlier_rank q) k) earlier_level

    -- "all its classes in T"
    unfoldable pub all_classes : ℕ → ℕ
    all_classes K = largest A.n (open_of_lem A (set_of A v) K) (rank_at v)

    -- the pair K + 16 k after the step
    unfoldable pub onto_of_lem : ℕ → ℕ
    unfolding level_left all_classes
    onto_of_lem pair =
        cond (eqb (pair / 16) 0)
        (next_component_lem A (pair % 16) + 16 * all_classes (next_component_lem A (pair % 16)))
        (pair % 16 + 16 * level_left (pair % 16) (pair / 16))
