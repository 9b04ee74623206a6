-- Whether a step spares a component, computed: equal to `SparesIn` by spares-iff (stricter_laws/proofs/Steps).
use Rattle.std.specs.Prelude.{Bool, ◌&&◌, ◌||◌, not, ℕ, eqb}
use Rattle.sets.specs.Tests.{some_below}
use Rattle.theory.specs.Automaton.{Automaton}
use Rattle.theory.specs.Code.{set_in, rank_in}
use Rattle.theory.specs.Core.{open_of_lem}
use Rattle.theory.specs.CoreComputed.{level_of}
use Rattle.spare_spec.specs.Spare.{classes_of_lem}

module _ (A : Automaton) where
  -- some open state of component K in c has level m over the letter a to d
  unfoldable pub has_level : ℕ → ℕ → ℕ → ℕ → ℕ → Bool
  has_level a c d K m = some_below A.n (λ q. open_of_lem A (set_in A c) K q && eqb (level_of A 15 (set_in A d) (rank_in A d) q (A.entry q a)) m)

  unfoldable pub spares : ℕ → ℕ → ℕ → ℕ → Bool
  spares a c d K = let m = classes_of_lem A (set_in A d) (rank_in A d) K in not (has_level a c d K m) || eqb m 0
