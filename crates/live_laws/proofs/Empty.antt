-- 02: "An empty set means that no continuation which ends in a cycle is accepted, and a non-empty one means that some is."; and none at all, repeating or not.
use mathlib.Core.Path.{◌≡◌, refl, ap, ◌∙◌}
use mathlib.Core.Logic.{◌↔◌, by_cases}
use mathlib.Core.List.{List, [], ◌∷◌, ◌++◌, Memᴰ}
use Prim.Native.Nat.{ℕ, suc, ◌≤◌, ◌<◌}
use native.Mathlib.Omega.{arith}
use native.Mathlib.Decide.{dec_lt}
use native.Mathlib.Nat.{zero-add}
use lib.ListN.{length, get_or}
use lib.Seq.{ext_get_or}
use Rattle.sets.specs.Lists.{tabulate}
use Rattle.sets.specs.Tests.{count}
use Rattle.sets.proofs.Lists.{mem-at, length-tabulate, tabulate-at}
use Rattle.sets.proofs.Tests.{count-hit, count-lt}
use Rattle.theory.specs.Automaton.{automaton}
use Rattle.theory.specs.Demand.{Demand3}
use Rattle.theory.specs.Macrostate.{holds_initial, Macrostate}
use Rattle.theory.specs.Passing.{Passing}
use Rattle.theory.specs.Plan.{AcceptsWord}
use Rattle.theory.specs.Rule.{Rule}
use Rattle.theory.specs.Run.{target_of, Leads}
use Rattle.theory.specs.Sequence.{AcceptsSequence}
use Rattle.theory.specs.TableComputed.{macrostates, transitions}
use Rattle.theory.specs.Word.{letters}
use Rattle.theory_laws.proofs.Demand.{demand3}
use Rattle.theory_laws.proofs.Layers.{layered}
use Rattle.theory_laws.proofs.Lists.{codes-once, moves-once}
use Rattle.theory_laws.proofs.Places.{letter-first, letter-behind}
use Rattle.theory_laws.proofs.Tables.{few_states, components-there, reachable-macrostate, lists-reachable, goes_by, in-range}
use Rattle.trim_spec.specs.Matters.{Matters, ListsMattering}
use Rattle.trim_spec.specs.Trimmed.{trimmed_codes, trimmed_transitions}
use Rattle.theory_laws.proofs.Empty.{matters-before, before-lead, before-cycle, accepted}
use Rattle.theory_laws.proofs.Trimmed.{trimmed-lists, trimmed-demand3, trimmed-room}
use Rattle.endless_spec.proofs.Beginnings.{begins-word}
use Rattle.live_spec.specs.Reached.{Walks, here, step, ReachedOver, Continues, Accepted}
use Rattle.live_spec.specs.Afresh.{is_in, afresh, members_of}
use Rattle.live_laws.proofs.Reached.{reached-iff}

-- the beginning of a run is a walk over the letters that the word begins with
pub run-walks : (ts l lead cycle : List ℕ) → 0 < length cycle → (x : ℕ → ℕ)
    → ((i : ℕ) → (t : ℕ) × Memᴰ t ts × Leads t (x i) (letters (l ++ lead) cycle i) (x (suc i))) → Walks ts (x 0) l (x (length l))
run-walks ts [] lead cycle c x moves = here
run-walks ts (a ∷ l) lead cycle c x moves =
    let (t, m, k) = moves 0 in
    step t a m (rw (letter-first a (l ++ lead) cycle) at k)
    (run-walks ts l lead cycle c (λ i. x (suc i)) (λ i. let (u, n, j) = moves (suc i) in (u, n, rw (letter-behind a (l ++ lead) cycle c i) at j)))

-- the letters that a sequence begins with, as its first ones
begins-tabulated : (s : ℕ) (l : List ℕ) (w : ℕ → ℕ) → Continues s l w → tabulate (length l) w 0 ≡ l
begins-tabulated s l w C =
    ext_get_or 0 (tabulate (length l) w 0) l (length-tabulate (length l) w 0) (λ i h.
    let k : i < length l = rw (length-tabulate (length l) w 0) at h in
    tabulate-at (length l) w 0 i k ∙ ap w (zero-add i) ∙ C.begins i k)

-- letters with an accepted endless continuation have one that ends in a cycle
pub endless-accepted : (r : Rule) → Passing r → (l : List ℕ) (w : ℕ → ℕ) → Continues r.s l w → AcceptsSequence r w → Accepted r l
endless-accepted r P l w C a =
    let (lead, cycle, W, A) = begins-word r P w C.known a (length l) in
    let e = begins-tabulated r.s l w C in
    record { lead = lead; cycle = cycle; word = rw e at W; accepts = rw e at A }

module _ (r : Rule) (P : Passing r) (room : length (macrostates r) ≤ 65536) where
  module _ (codes ts : List ℕ) (L : ListsMattering r codes ts) where
    -- the lists are those of the trimmed build
    codes_same : codes ≡ trimmed_codes r
    codes_same = codes-once L (trimmed-lists r P room)

    transitions-same : ts ≡ trimmed_transitions r
    transitions-same = moves-once L (trimmed-lists r P room)

    lists-demand3 : Demand3 r codes ts
    lists-demand3 = rw (codes_same, transitions-same) (trimmed-demand3 r P room)

    abbrev code : ℕ → ℕ
    code x = get_or codes x 0

    few : length codes ≤ 65536
    few = rw codes_same (trimmed-room r P room)

    pub low-targets : (t : ℕ) → Memᴰ t ts → target_of t < length codes
    low-targets t m = (in-range r P L few t m).target

    macrostate-at : (x : ℕ) → x < length codes → Macrostate (automaton r) (code x)
    macrostate-at x l =
        reachable-macrostate (automaton r) (layered r P) (few_states r P) (components-there r P) r.s (holds_initial r) ((L.codes_are (code x)).0 (mem-at codes x l)).0

    matters-at : (x : ℕ) → x < length codes → Matters r (code x)
    matters-at x l = ((L.codes_are (code x)).0 (mem-at codes x l)).1

    -- a macrostate that walks over the letters l to y goes on for ever over l and then as y does
    walk-matters : {x y : ℕ} {l : List ℕ} → Walks ts x l y → (K : Matters r (code y)) → (J : Matters r (code x)) × (J.lead ≡ l ++ K.lead) × (J.cycle ≡ K.cycle)
    walk-matters here K = (K, refl, refl)
    walk-matters (step {x = x} {z = z} t a m k w) K =
        let (J, e, f) = walk-matters w K in
        let (G, known) = goes_by r P L few t x a z m k in
        let M = macrostate-at x (rw k.source at (in-range r P L few t m).source) in (
          matters-before r (code x) a (code z) known M G J,
          before-lead r (code x) a (code z) known M G J ∙ ap (λ (v : List ℕ). a ∷ v) e,
          before-cycle r (code x) a (code z) known M G J ∙ f,
        )

    -- a macrostate in the set, and the letters have an accepted continuation
    reached-accepted : (l : List ℕ) (y : ℕ) → y < length codes → ReachedOver r codes ts l y → Accepted r l
    reached-accepted l y low R =
        let K = matters-at y low in
        let (J, e, f) = walk-matters R.walk K in
        let a : AcceptsWord r J.lead J.cycle = accepted r P (macrostates r) (transitions r) (lists-reachable r P room) room (demand3 r P room) (code R.start) R.initial
        (macrostate-at R.start R.listed) J in
        record { lead = K.lead; cycle = K.cycle; word = rw (e, f) at J.word; accepts = rw (e, f) at a }

    -- and the other way round: the accepting run of the continuation passes one
    accepted-reached : (l : List ℕ) → Accepted r l → (y : ℕ) × (y < length codes) × ReachedOver r codes ts l y
    accepted-reached l A =
        let (x, R) = (lists-demand3.exact (l ++ A.lead) A.cycle A.word).0 A.accepts in (
          x (length l),
          R.run.within (length l),
          record { start = x 0; listed = R.run.within 0; initial = R.run.begins; walk = run-walks ts l A.lead A.cycle A.word.repeats x R.run.moves },
        )

    -- "a non-empty one means that some is"
    pub some_left : (l : List ℕ) → (0 < members_of (length codes) (afresh r.initial codes ts l)) ↔ Accepted r l
    unfolding members_of
    some_left l =
        let set = afresh r.initial codes ts l in (
          λ h. let (y, low, e, c) = count-hit (length codes) (is_in set) 0 h in reached-accepted l y low ((reached-iff r codes ts low-targets l y).0 e),
          λ A. let (y, low, R) = accepted-reached l A in
              let k : count y (is_in set) < count (length codes) (is_in set) = count-lt y (length codes) (is_in set) low ((reached-iff r codes ts low-targets l y).1 R) in
              omega (arith, k),
        )

    -- "An empty set means that no continuation which ends in a cycle is accepted"
    pub none_left : (l : List ℕ) → (members_of (length codes) (afresh r.initial codes ts l) ≡ 0) ↔ (Accepted r l → ⊥)
    none_left l = (
      λ e A. let k = (some_left l).1 A in absurd (omega (arith, k, e)),
      λ none. by_cases (dec_lt 0 (members_of (length codes) (afresh r.initial codes ts l)))
          (λ k. absurd (none ((some_left l).0 k)))
          (λ k. omega (arith, k)),
    )

    -- and no endless continuation whatever
    pub none-endless : (l : List ℕ) → members_of (length codes) (afresh r.initial codes ts l) ≡ 0 → (w : ℕ → ℕ) → Continues r.s l w → AcceptsSequence r w → ⊥
    none-endless l e w C a = (none_left l).0 e (endless-accepted r P l w C a)
