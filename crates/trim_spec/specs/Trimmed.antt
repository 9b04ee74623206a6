-- The lists of the trimmed table, computed. That the codes are those of the reachable macrostates that matter, by runs, is `trimmed-lists` (theory_laws/proofs/Trimmed).
use Rattle.std.specs.Prelude.{Bool, true, false, ◌&&◌, ◌||◌, cond, List, [], ◌∷◌, ℕ, zero, suc, ◌+◌, ◌*◌, ltb, length, get_or}
use Rattle.sets.specs.Tests.{Set, count}
use Rattle.sets.specs.Lists.{any_of, sum}
use Rattle.theory.specs.Automaton.{automaton}
use Rattle.theory.specs.Macrostate.{is_accepting_lem}
use Rattle.theory.specs.Rule.{Rule}
use Rattle.theory.specs.Run.{source_of, letter_of_lem, target_of}
use Rattle.theory.specs.TableComputed.{macrostates, transitions, transitions_of}
use Rattle.graph_walks.specs.Marks.{marked, is_new, settled, goes_out_lem}

-- ---- marks of a table's numbers: 0 for one that is out, 1 for one that is in, 2 for one that is in and accepting

-- all are in
unfoldable pub flag_of_lem : ℕ → ℕ
flag_of_lem c = cond (is_accepting_lem c) 2 1

unfoldable pub flags : List ℕ → List ℕ
flags [] = []
flags (c ∷ cs) = flag_of_lem c ∷ flags cs

-- one sweep over the transitions marks, by 2 more, sources of transitions to accepting or marked numbers; whether others may be marked for that
unfoldable pub swept : List ℕ → List ℕ → List ℕ
swept [] ms = ms
swept (t ∷ ts) ms = swept ts (marked (source_of t) (target_of t) ms)

unfoldable pub is_new_in : List ℕ → List ℕ → Bool
is_new_in [] ms = false
is_new_in (t ∷ ts) ms = is_new (source_of t) (target_of t) ms || is_new_in ts (marked (source_of t) (target_of t) ms)

-- at most d sweeps, until one brings nothing new
unfoldable pub swept_out : ℕ → List ℕ → List ℕ → List ℕ
swept_out zero ts ms = ms
swept_out (suc d) ts ms = let next = swept ts ms in elim (is_new_in ts ms) [ true ↦ swept_out d ts next | false ↦ next ]

-- numbers that are not marked go out, the others lose their marks
unfoldable pub settled_all : List ℕ → List ℕ
settled_all [] = []
settled_all (v ∷ vs) = settled v ∷ settled_all vs

-- at most d rounds, until no accepting one goes out
unfoldable pub solved_in : ℕ → List ℕ → List ℕ → List ℕ
solved_in zero ts ms = ms
solved_in (suc d) ts ms =
    let out = swept_out (suc (4 * length ms)) ts ms in
    elim (any_of out goes_out_lem) [ true ↦ solved_in d ts (settled_all out) | false ↦ settled_all out ]

-- the marks that are left: of the numbers that matter (theory_laws/proofs/Mattering: matters-iff)
unfoldable pub live_marks : List ℕ → List ℕ → List ℕ
live_marks codes ts = let ms = flags codes in solved_in (suc (sum ms)) ts ms

-- ---- the lists

-- the members whose marks are not 0, in their order
unfoldable pub picked : List ℕ → List ℕ → List ℕ
picked [] cs = []
picked (m ∷ ms) [] = []
picked (m ∷ ms) (c ∷ cs) = elim (ltb 0 m) [ true ↦ c ∷ picked ms cs | false ↦ picked ms cs ]

-- "renumbered ascending": the number of members before i whose marks are not 0
unfoldable pub is_live : List ℕ → Set
is_live ms i = ltb 0 (get_or ms i 0)

unfoldable pub new_number : List ℕ → ℕ → ℕ
new_number ms i = count i (is_live ms)

unfoldable pub trimmed_codes : Rule → List ℕ
trimmed_codes r = picked (live_marks (macrostates r) (transitions r)) (macrostates r)

-- "and the transitions between them"
unfoldable pub trimmed_transitions : Rule → List ℕ
trimmed_transitions r = transitions_of (automaton r) r.s (trimmed_codes r)

-- ---- the transitions, rewritten one by one

-- both ends are left
unfoldable pub is_left_lem : List ℕ → ℕ → Bool
is_left_lem ms t = is_live ms (source_of t) && is_live ms (target_of t)

-- a transition by the new numbers of its ends
unfoldable pub renumber : List ℕ → ℕ → ℕ
renumber ms t = new_number ms (source_of t) * 16777216 + letter_of_lem t * 65536 + new_number ms (target_of t)

-- those whose ends are left, by their new numbers: `trimmed_transitions` (theory_laws/proofs/Renumbering: renumbered-are)
unfoldable pub renumbered : List ℕ → List ℕ → List ℕ
renumbered ms [] = []
renumbered ms (t ∷ ts) = elim (is_left_lem ms t) [ true ↦ renumber ms t ∷ renumbered ms ts | false ↦ renumbered ms ts ]
