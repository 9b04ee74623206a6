-- The lists that the build writes, computed: they hold what Table says by reachable-iff and transition-iff (theory_laws/proofs/Tables).
use Rattle.std.specs.Prelude.{Bool, ◌&&◌, ◌||◌, List, [], ◌∷◌, length, get_or}
use Prim.Native.Nat.{ℕ, zero, suc, ◌+◌, ◌*◌, ◌/◌, ◌%◌, ◌^◌}
use Rattle.sets.specs.Tests.{Set, some_below}
use Rattle.sets.specs.Lists.{keep, among, any_of, tabulate, flat, sorted}
use Rattle.theory.specs.Rule.{Rule}
use Rattle.theory.specs.Automaton.{Automaton, automaton}
use Rattle.theory.specs.CoreComputed.{is_core_lem}
use Rattle.theory.specs.Code.{set_in, rank_in, well_coded}
use Rattle.theory.specs.Macrostate.{begun, holds_initial}
use Rattle.theory.specs.MacrostateComputed.{goes}

-- the members of a list that are reached from its starts along the edges, in at most d steps
module _ (all : List ℕ) (start : Set) (edge : ℕ → ℕ → Bool) where
  unfoldable pub reached_in : ℕ → List ℕ
  unfolding keep among any_of
  reached_in zero = keep start all
  reached_in (suc d) = let t = reached_in d in keep (λ c. among t c || any_of t (λ x. edge x c)) all

  unfoldable pub reached : List ℕ
  unfolding reached_in sorted
  reached = sorted (reached_in (length all))

-- all numbers of m hexadecimal digits below b
unfoldable pub digitals : ℕ → ℕ → List ℕ
digitals b zero = 0 ∷ []
digitals b (suc m) = flat (digitals b m) (λ y. tabulate b (λ d. d * 16 ^ m + y) 0)

module _ (A : Automaton) where
  -- every code with ranks and k of at most n and a component number
  unfoldable pub candidates : List ℕ
  candidates = flat (digitals (suc A.n) A.n) (λ y. flat (tabulate (2 ^ A.n) (λ x. x) 0)
      (λ S. flat (tabulate A.components (λ x. x) 0) (λ K. tabulate (suc A.n) (λ k. (k * 16 ^ 9 + (K * 16 ^ 8 + y)) * 2 ^ 8 + S) 0)))

  -- those that are codes of cores
  unfoldable pub cores : List ℕ
  cores = keep (λ c. well_coded A c && is_core_lem A (set_in A c) (rank_in A c)) candidates

  -- the codes of the macrostates reached over s letters, ascending: those of `Reachable` (theory_laws/proofs/Tables: reachable-iff)
  unfoldable pub codes_from : ℕ → Set → List ℕ
  codes_from s start = let all = cores in reached all (begun start) (λ c d. some_below s (λ a. goes A c a d))

  -- the transitions between the numbers of the codes t, ascending, "as source × 16777216 + letter × 65536 + target"
  unfoldable pub transitions_of : ℕ → List ℕ → List ℕ
  transitions_of s t =
      sorted (keep (λ x. goes A (get_or t (x / 16777216) 0) (x / 65536 % 256) (get_or t (x % 65536) 0))
      (flat (tabulate (length t) (λ x. x) 0) (λ i. flat (tabulate s (λ x. x) 0) (λ a. tabulate (length t) (λ j. i * 16777216 + a * 65536 + j) 0))))

-- from a start condition
unfoldable pub macrostates_from : Rule → Set → List ℕ
macrostates_from r start = codes_from (automaton r) r.s start

unfoldable pub transitions_from : Rule → Set → List ℕ
transitions_from r start = transitions_of (automaton r) r.s (macrostates_from r start)

-- 01: "reachable codes ascending", from the initial macrostates
abbrev pub macrostates : Rule → List ℕ
macrostates r = macrostates_from r (holds_initial r)

-- 01: "transitions ascending"
abbrev pub transitions : Rule → List ℕ
transitions r = transitions_from r (holds_initial r)
