-- Pairs of numbers of two tables that are sorted out: which are in, and what is known of them.
use Rattle.std.specs.Prelude.{◌≡◌, true, false, cond, List, ℕ, ◌*◌, ◌≤◌, ◌<◌, length, get_or}
use Rattle.sets.specs.Tests.{Set}
use Rattle.theory.specs.Automaton.{automaton}
use Rattle.theory.specs.Passing.{Passing}
use Rattle.theory.specs.Rule.{Rule}
use Rattle.theory.specs.TableComputed.{macrostates_from, transitions_from}
use Rattle.stricter_spec.specs.Search.{NoShared}
use Rattle.stricter_laws.specs.Pairs.{PairEdge}
use Rattle.stricter_laws.specs.Sound.{BothSound}
use Rattle.stricter_laws.specs.Tests.{accepts_in, starts_in}
use Rattle.stricter_spec.specs.Steps.{CoreStep, SparedStep, CoresIn, Spread}
use Rattle.stricter_spec.specs.Rounds.{Narrowed, AllSound}
use Rattle.stricter_starts.specs.Starts.{FirstStart}

-- r is a pair that is in, where runs of both may begin, and from each pair that is in, pairs that are in and accepting on either side can be
-- reached; or it is the number of pairs, and no sequence of letters has an accepting run of each table.
pub record Sorted (ca ma : List ℕ) (start_a : Set) (cb mb : List ℕ) (start_b : Set) (marks : List ℕ) (r : ℕ) : Type 0 where
  pub long : length marks ≡ length ca * length cb
  pub within : r ≤ length marks
  pub sound : r < length marks → BothSound (PairEdge (length cb) ma mb) (accepts_in ca cb false) (accepts_in ca cb true) marks
  pub inside : r < length marks → 0 < get_or marks r 0
  pub begins : r < length marks → starts_in ca cb start_a start_b r ≡ true
  pub none : length marks ≤ r → NoShared ca ma start_a cb mb start_b

-- the marks come from those of the pairs of cores of two tagged tables, once these are narrowed, where a start pair is left: the first is r
pub record CoresSorted (acodes left : List ℕ) (acount : ℕ) (bcodes right : List ℕ) (bcount : ℕ) (starts : Set) (marks : List ℕ) (r : ℕ) : Type 0 where
  pub all : List ℕ
  pub in_all : CoresIn acodes bcodes all
  pub cores : List ℕ
  pub narrowed : Narrowed (CoreStep (length bcodes) left right) (SparedStep (length bcodes) left right) (λ s. cond s bcount acount) all cores
  pub sound : AllSound (CoreStep (length bcodes) left right) (SparedStep (length bcodes) left right) (λ s. cond s bcount acount) cores
  pub first : FirstStart starts cores r
  pub long : length marks ≡ length cores
  pub spread : r < length cores → Spread acodes bcodes cores marks

-- codes and moves are a table of the rule r, which passes the checks and has so many components, begun by the start condition
pub record TableOf (r : Rule) (start : Set) (count : ℕ) (codes moves : List ℕ) : Type 0 where
  pub passing : Passing r
  pub counted : count ≡ (automaton r).components
  pub few : length codes ≤ 65536
  pub codes_are : codes ≡ macrostates_from r start
  pub moves_are : moves ≡ transitions_from r start
