-- Steps that spare a component: what the acceptance of a run comes to by its cores alone, without K and k.
use Rattle.std.specs.Prelude.{◌≡◌, ◌⊎◌, true, List, ℕ, suc, ◌≤◌, ◌<◌}
use Rattle.sets.specs.Tests.{Set, largest}
use Rattle.theory.specs.Automaton.{Automaton, automaton}
use Rattle.theory.specs.Code.{set_in, rank_in}
use Rattle.theory.specs.Core.{Least, settled_up_to, Earlier, open_of_lem}
use Rattle.theory.specs.Macrostate.{Macrostate, Goes}
use Rattle.theory.specs.Rule.{Rule}
use Rattle.theory.specs.Word.{WordOver, letters}

module _ (A : Automaton) where
  -- the number of component K's classes in the core (T, t): ranks have no gap, so the largest rank says it
  abbrev pub classes_of_lem : Set → (ℕ → ℕ) → ℕ → ℕ
  classes_of_lem T t K = largest A.n (open_of_lem A T K) t

  -- The open states of component K in S have no level m over the letter a to the core (T, t).
  abbrev pub NoLevel : ℕ → Set → Set → (ℕ → ℕ) → ℕ → ℕ → Type 0
  NoLevel a S T t K m = (q : ℕ) → q < A.n → open_of_lem A S K q ≡ true → Least (settled_up_to A T t q (A.entry q a)) m → ⊥

  -- The step over the letter a from a core with the set S to the core (T, t) spares component K
  -- if no open state of K in S has level m, m the number of K's classes in T, or if m is 0.
  abbrev pub Spares : ℕ → Set → Set → (ℕ → ℕ) → ℕ → Type 0
  Spares a S T t K = NoLevel a S T t K (classes_of_lem T t K) ⊎ (classes_of_lem T t K ≡ 0)

  -- The step over the letter a from the macrostate with the code c to that with the code d spares component K, by their cores.
  abbrev pub SparesIn : ℕ → ℕ → ℕ → ℕ → Type 0
  SparesIn a c d K = Spares a (set_in A c) (set_in A d) (rank_in A d) K

  -- the core of c is the one before the core of d over the letter a, with the levels l
  abbrev pub EarlierIn : ℕ → ℕ → ℕ → (ℕ → ℕ) → Type 0
  EarlierIn a c d l = Earlier A a (set_in A c) (rank_in A c) (set_in A d) (rank_in A d) l

  -- w gives the letter of each step, c its code
  module _ (w c : ℕ → ℕ) where
    -- macrostates, each of which goes to the next: a run but for where it begins and whether it accepts
    pub record Steps : Type 0 where
      pub macrostate : (i : ℕ) → Macrostate A (c i)
      pub steps : (i : ℕ) → Goes A (c i) (w i) (c (suc i))

    -- cores, each the one before the next: of the codes, K and k do not count
    pub record CoreSteps : Type 0 where
      pub level : ℕ → ℕ → ℕ
      pub earlier : (i : ℕ) → EarlierIn (w i) (c i) (c (suc i)) (level i)

    -- each component is spared again and again
    abbrev pub SparesAgain : Type 0
    SparesAgain = (K : ℕ) → K < A.components → (i : ℕ) → (j : ℕ) × (i ≤ j) × SparesIn (w j) (c j) (c (suc j)) K

  -- codes of the same core: K and k may differ
  pub record SameCore (c d : ℕ) : Type 0 where
    pub sets : (q : ℕ) → q < A.n → set_in A c q ≡ set_in A d q
    pub ranks : (q : ℕ) → q < A.n → rank_in A c q ≡ rank_in A d q

-- the core of a code is alive: on some lead-in and cycle cores go on from it that spare each component again and again
pub record LiveCore (r : Rule) (code : ℕ) : Type 0 where
  pub lead : List ℕ
  pub cycle : List ℕ
  pub word : WordOver r.s lead cycle
  pub cores : ℕ → ℕ
  pub begins : SameCore (automaton r) (cores 0) code
  pub steps : CoreSteps (automaton r) (letters lead cycle) cores
  pub spares : SparesAgain (automaton r) (letters lead cycle) cores
