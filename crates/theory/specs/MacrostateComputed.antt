-- The step of a macrostate, computed: equal to `Goes` by goes-iff (theory_laws/proofs/Goes).
use Rattle.std.specs.Prelude.{Bool, ◌&&◌, cond, ℕ, eqb, leb}
use Rattle.std.specs.Bool.{beq}
use Rattle.sets.specs.Tests.{every, largest}
use Rattle.theory.specs.Rule.{satisfies}
use Rattle.theory.specs.Automaton.{Automaton}
use Rattle.theory.specs.Core.{open_of_lem, next_component_lem}
use Rattle.theory.specs.CoreComputed.{level_of, rank_of}
use Rattle.theory.specs.Code.{set_in, rank_in, component_in, classes_in}

module _ (A : Automaton) where
  -- the core of c is the one before the core of d at letter a
  unfoldable pub before : ℕ → ℕ → ℕ → Bool
  before c a d =
      every A.n (λ q. beq (set_in A c q) (satisfies A.n (set_in A d) (A.entry q a)))
      && every A.n (λ q. eqb (rank_in A c q) (rank_of A (set_in A c) (λ p. level_of A 15 (set_in A d) (rank_in A d) p (A.entry p a)) q))

  -- component and classes left go on
  unfoldable pub onward : ℕ → ℕ → ℕ → Bool
  onward c a d =
      cond (eqb (classes_in c) 0)
      (eqb (component_in d) (next_component_lem A (component_in c)) && eqb (classes_in d) (largest A.n (open_of_lem A (set_in A d) (component_in d)) (rank_in A d)))
      (eqb (component_in d) (component_in c)
      && eqb (classes_in d) (largest A.n (λ q. open_of_lem A (set_in A c) (component_in c) q && leb (rank_in A c q) (classes_in c)) (λ p. level_of A 15 (set_in A d) (rank_in A d) p (A.entry p a))))

  unfoldable pub goes : ℕ → ℕ → ℕ → Bool
  goes c a d = before c a d && onward c a d
