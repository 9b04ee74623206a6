-- The lists of the build: the codes are the reachable macrostates, the transitions are their steps, and the accepting runs of the table are the runs of codes.
use mathlib.Core.Path.{◌≡◌, refl, sym, ◌∙◌, ap, ap₂}
use mathlib.Core.Logic.{◌↔◌, by_cases}
use mathlib.Core.Bool.{Bool, true, ◌&&◌}
use mathlib.Core.List.{List, Memᴰ}
use Prim.Native.Nat.{ℕ, zero, suc, ◌+◌, ◌*◌, ◌/◌, ◌%◌, ◌≤◌, ◌<◌}
use native.Mathlib.Omega.{arith}
use native.Mathlib.Nat.{le_trans, le_of_eq}
use native.Mathlib.Decide.{ℕ_discrete}
use lib.Dec.{eqb, leb}
use lib.ListN.{length, get_or}
use lib.Arith.{digits_div, digits_mod}
use borrow.Author.Tests.{eqb-true, eq-eqb}
use Rattle.sets.specs.Lists.{tabulate, flat, Ascending}
use Rattle.sets.specs.Tests.{Set, some_below, largest}
use Rattle.sets.proofs.Bools.{and_l, and_r, and_i}
use Rattle.sets.proofs.Lists.{keep-in, keep_out, mem-at, place_of, tabulate-0, tabulate-out, flat_in, flat_out}
use Rattle.sets.proofs.Tests.{some_at, some-get, largest-le}
use Rattle.sets.proofs.Ascending.{asc-inj, sorted-asc, sorted-in, sorted-out}
use Rattle.theory.specs.Automaton.{Automaton, automaton}
use Rattle.theory.specs.Layered.{Layered}
use Rattle.theory.specs.Code.{set_in, rank_in, component_in, classes_in, well_coded}
use Rattle.theory.specs.Core.{open_of_lem}
use Rattle.theory.specs.CoreComputed.{is_core_lem}
use Rattle.theory.specs.Macrostate.{begun, holds_initial, is_accepting_lem, Macrostate, Goes, Reachable, begins, goes_to}
use Rattle.theory.specs.MacrostateComputed.{goes}
use Rattle.theory.specs.Passing.{Passing}
use Rattle.theory.specs.Rule.{Rule}
use Rattle.theory.specs.Run.{source_of, letter_of_lem, target_of, Leads, AcceptingRun}
use Rattle.theory.specs.CodeRuns.{CodeRun}
use Rattle.theory.specs.Table.{Transition, Listed, ListsFrom, ListsReachable}
use Rattle.theory.specs.TableComputed.{candidates, cores, codes_from, transitions_of, macrostates_from, transitions_from, macrostates, transitions}
use Rattle.theory_laws.proofs.Candidates.{candidate}
use Rattle.theory_laws.proofs.Classes.{open-component, open-state}
use Rattle.theory_laws.proofs.Codes.{code-unique}
use Rattle.theory_laws.proofs.Cores.{core-iff, core-rank-max, classes-max, level-classes, next_low}
use Rattle.theory_laws.proofs.Goes.{goes-iff}
use Rattle.theory_laws.proofs.Layers.{layered, some-component}
use Rattle.theory_laws.proofs.Reached.{Along, starts, follows, reached-iff, reached-asc}

-- ---- a packed transition taken apart

module _ (x a y : ℕ) (ha : a < 256) (hy : y < 65536) where
  regroup : x * 16777216 + a * 65536 + y ≡ (x * 256 + a) * 65536 + y
  regroup = omega arith

  pub target_is : target_of (x * 16777216 + a * 65536 + y) ≡ y
  target_is = ap (λ (n : ℕ). n % 65536) regroup ∙ digits_mod (x * 256 + a) hy

  pub letter-is : letter_of_lem (x * 16777216 + a * 65536 + y) ≡ a
  letter-is = ap (λ (n : ℕ). n / 65536 % 256) regroup ∙ ap (λ (n : ℕ). n % 256) (digits_div (x * 256 + a) hy) ∙ digits_mod x ha

  pub source_is : source_of (x * 16777216 + a * 65536 + y) ≡ x
  source_is =
      let h : a * 65536 + y < 16777216 = omega arith in
      let e : x * 16777216 + a * 65536 + y ≡ x * 16777216 + (a * 65536 + y) = omega arith in
      ap (λ (n : ℕ). n / 16777216) e ∙ digits_div x h

-- the step from x over a to y, packed as t
abbrev pub transition-by : {A : Automaton} {s : ℕ} {codes : List ℕ} {t : ℕ} (x a y : ℕ) → x < length codes → a < s → y < length codes → t ≡ x * 16777216 + a * 65536 + y
    → Goes A (get_or codes x 0) a (get_or codes y 0) → Transition A s codes t
transition-by x a y i j k e G = record { source = x; letter = a; target = y; source_listed = i; letter_known = j; target_listed = k; packed = e; steps = G }

pub begun-start : (start : Set) (c : ℕ) → begun start c ≡ true → start c ≡ true
unfolding begun
begun-start start c e = and_l (start c) (eqb (component_in c) 0 && eqb (classes_in c) 0) e

pub begun-component : (start : Set) (c : ℕ) → begun start c ≡ true → component_in c ≡ 0
unfolding begun
begun-component start c e = eqb-true _ _ (and_l (eqb (component_in c) 0) (eqb (classes_in c) 0) (and_r (start c) (eqb (component_in c) 0 && eqb (classes_in c) 0) e))

pub begun-classes : (start : Set) (c : ℕ) → begun start c ≡ true → classes_in c ≡ 0
unfolding begun
begun-classes start c e = eqb-true _ _ (and_r (eqb (component_in c) 0) (eqb (classes_in c) 0) (and_r (start c) (eqb (component_in c) 0 && eqb (classes_in c) 0) e))

pub is-begun : (start : Set) (c : ℕ) → start c ≡ true → component_in c ≡ 0 → classes_in c ≡ 0 → begun start c ≡ true
unfolding begun
is-begun start c e x y = and_i e (and_i (eq-eqb _ _ x) (eq-eqb _ _ y))

module _ (A : Automaton) (H : Layered A) (small : A.n ≤ 8) (filled : 0 < A.components) (s : ℕ) (start : Set) where
  -- ---- reachable macrostates

  pub reachable-macrostate : {c : ℕ} → Reachable A s start c → Macrostate A c
  reachable-macrostate (begins M e) = M
  reachable-macrostate (goes_to a R l M G) = M

  left-low : (c a d : ℕ) (G : Goes A c a d) (q : ℕ) → q < A.n → open_of_lem A (set_in A c) (component_in c) q && leb (rank_in A c q) (classes_in c) ≡ true → component_in d ≡ component_in c
      → G.level q ≤ largest A.n (open_of_lem A (set_in A d) (component_in d)) (rank_in A d)
  left-low c a d G q m t e =
      let u = and_l (open_of_lem A (set_in A c) (component_in c) q) (leb (rank_in A c q) (classes_in c)) t in
      let x = open-component A (set_in A c) (component_in c) q u in
      rw (x ∙ sym e) at (level-classes A a (set_in A d) (rank_in A d) H (set_in A c) (rank_in A c) G.level G.earlier q m (open-state A (set_in A c) (component_in c) q u))

  -- k is at most the classes of K
  pub goes-classes : (c a d : ℕ) → Goes A c a d → classes_in d ≤ largest A.n (open_of_lem A (set_in A d) (component_in d)) (rank_in A d)
  goes-classes c a d G =
      by_cases (ℕ_discrete (classes_in c) 0) (λ z. le_of_eq (G.all z))
      (λ z. le_trans (le_of_eq (G.left z)) (largest-le A.n _ _ _ (λ q m t. left-low c a d G q m t (G.stays z))))

  pub reachable-classes : {c : ℕ} → Reachable A s start c → classes_in c ≤ largest A.n (open_of_lem A (set_in A c) (component_in c)) (rank_in A c)
  reachable-classes (begins {c = c} M e) = let z = begun-classes start c e in omega arith
  reachable-classes (goes_to {c = c} {d = d} a R l M G) = goes-classes c a d G

  -- ---- the list of codes

  edge : ℕ → ℕ → Bool
  edge c d = some_below s (λ a. goes A c a d)

  abbrev pub codes : List ℕ
  codes = codes_from A s start

  in-cores : (c : ℕ) → Macrostate A c → classes_in c ≤ A.n → Memᴰ c (cores A)
  unfolding cores
  in-cores c M h = keep-in _ (candidates A) c (candidate A small c M.coded (core-rank-max A (set_in A c) (rank_in A c) M.core) M.component h)
      (and_i M.coded ((core-iff A (set_in A c) (rank_in A c)).1 M.core))

  along : {c : ℕ} → Reachable A s start c → Along (cores A) (begun start) edge c
  unfolding edge
  along (begins {c = c} M e) = starts (in-cores c M (let z = begun-classes start c e in omega arith)) e
  along (goes_to {c = c} {d = d} a R l M G) =
      follows (along R) (in-cores d M (le_trans (goes-classes c a d G) (classes-max A (set_in A d) (rank_in A d) M.core (component_in d))))
      (some_at s (λ b. goes A c b d) a l ((goes-iff A H c a d).1 G))

  cored : (c : ℕ) → Memᴰ c (cores A) → (well_coded A c ≡ true) × (is_core_lem A (set_in A c) (rank_in A c) ≡ true)
  unfolding cores
  cored c m = let k = (keep_out _ (candidates A) c m).1 in (and_l (well_coded A c) (is_core_lem A (set_in A c) (rank_in A c)) k, and_r (well_coded A c) (is_core_lem A (set_in A c) (rank_in A c)) k)

  macro : (c : ℕ) → Memᴰ c (cores A) → component_in c < A.components → Macrostate A c
  macro c m h = record { coded = (cored c m).0; core = (core-iff A (set_in A c) (rank_in A c)).0 (cored c m).1; component = h }

  pub goes-component : (c a d : ℕ) → Goes A c a d → component_in c < A.components → component_in d < A.components
  goes-component c a d G h = by_cases (ℕ_discrete (classes_in c) 0) (λ z. rw (G.next z) (next_low A (component_in c) h)) (λ z. rw (G.stays z) h)

  step_of : (c d : ℕ) → Reachable A s start c → Memᴰ d (cores A) → edge c d ≡ true → Reachable A s start d
  unfolding edge
  step_of c d R m e =
      let g = some-get s (λ a. goes A c a d) e in
      let G = (goes-iff A H c g.0 d).0 g.2 in
      goes_to g.0 R g.1 (macro d m (goes-component c g.0 d G (reachable-macrostate R).component)) G

  of-along : {c : ℕ} → Along (cores A) (begun start) edge c → Reachable A s start c
  of-along (starts {c = c} m e) = begins (macro c m (let z = begun-component start c e in omega arith)) e
  of-along (follows {x = x} {c = c} R m e) = step_of x c (of-along R) m e

  -- the codes are those of the reachable macrostates
  pub codes-iff : (c : ℕ) → Memᴰ c codes ↔ Reachable A s start c
  unfolding codes_from edge
  codes-iff c = (λ m. of-along ((reached-iff (cores A) (begun start) edge c).0 m), λ R. (reached-iff (cores A) (begun start) edge c).1 (along R))

  pub codes-ascending : Ascending codes
  unfolding codes_from edge
  codes-ascending = reached-asc (cores A) (begun start) edge

-- ---- the list of transitions, between any codes

pub below : (k z : ℕ) → Memᴰ z (tabulate k (λ x. x) 0) → z < k
below k z m = let r = tabulate-out k (λ x. x) z m in omega (arith, r.1, r.2)

module _ (A : Automaton) (s : ℕ) (codes : List ℕ) where
  abbrev code : ℕ → ℕ
  code x = get_or codes x 0

  pub steps-ascending : Ascending (transitions_of A s codes)
  unfolding transitions_of
  steps-ascending = sorted-asc _

  steps-there : ℕ → Bool
  steps-there t = goes A (code (source_of t)) (letter_of_lem t) (code (target_of t))

  steps-there-is : (x a y : ℕ) → a < 256 → y < 65536 → steps-there (x * 16777216 + a * 65536 + y) ≡ goes A (code x) a (code y)
  unfolding steps-there
  steps-there-is x a y ha hy =
      ap₂ (λ (p q : ℕ). goes A (code p) q (code (target_of (x * 16777216 + a * 65536 + y)))) (source_is x a y ha hy) (letter-is x a y ha hy)
      ∙ ap (λ (p : ℕ). goes A (code x) a (code p)) (target_is x a y ha hy)

  module _ (H : Layered A) (low : s ≤ 256) (room : length codes ≤ 65536) where
    packed-out : (x a y : ℕ) → a < s → y < length codes → Memᴰ (x * 16777216 + a * 65536 + y) (transitions_of A s codes) → Goes A (code x) a (code y)
    unfolding transitions_of steps-there
    packed-out x a y ha hy m = (goes-iff A H (code x) a (code y)).0 (sym (steps-there-is x a y (omega arith) (omega arith)) ∙ (keep_out steps-there _ _ (sorted-out _ _ m)).1)

    made_of : (t x a y : ℕ) → x < length codes → a < s → y < length codes → t ≡ x * 16777216 + a * 65536 + y → Memᴰ t (transitions_of A s codes) → Transition A s codes t
    made_of t x a y hx ha hy e m = transition-by x a y hx ha hy e (packed-out x a y ha hy (rw e at m))

    transition-out : (t : ℕ) → Memᴰ t (transitions_of A s codes) → Transition A s codes t
    unfolding transitions_of
    transition-out t m =
        let i = flat_out _ _ t (keep_out _ _ t (sorted-out _ t m)).0 in
        let b = flat_out _ _ t i.2 in
        let y = tabulate-out _ _ t b.2 in
        made_of t i.0 b.0 y.0 (below (length codes) i.0 i.1) (below s b.0 b.1) y.1 y.2 m

    transition-in : (t : ℕ) → Transition A s codes t → Memᴰ t (transitions_of A s codes)
    unfolding transitions_of steps-there
    transition-in t T =
        rw T.packed (sorted-in _ _ (keep-in steps-there _ _
        (flat_in (tabulate (length codes) (λ z. z) 0) (λ i. flat (tabulate s (λ z. z) 0) (λ b. tabulate (length codes) (λ j. i * 16777216 + b * 65536 + j) 0)) T.source _
        (tabulate-0 _ (λ z. z) T.source T.source_listed)
        (flat_in (tabulate s (λ z. z) 0) (λ b. tabulate (length codes) (λ j. T.source * 16777216 + b * 65536 + j) 0) T.letter _ (tabulate-0 s (λ z. z) T.letter T.letter_known)
        (tabulate-0 (length codes) (λ j. T.source * 16777216 + T.letter * 65536 + j) T.target T.target_listed)))
        (steps-there-is T.source T.letter T.target (omega (arith, T.letter_known)) (omega (arith, T.target_listed))
        ∙ (goes-iff A H (code T.source) T.letter (code T.target)).1 T.steps)))

    -- a number is listed exactly if it is a transition
    pub steps-iff : (t : ℕ) → Memᴰ t (transitions_of A s codes) ↔ Transition A s codes t
    steps-iff t = (transition-out t, transition-in t)

    -- a transition taken apart
    pub transition-leads : (t : ℕ) (T : Transition A s codes t) → Leads t T.source T.letter T.target
    transition-leads t T = record {
      source = ap source_of T.packed ∙ source_is T.source T.letter T.target (omega (arith, T.letter_known)) (omega (arith, T.target_listed));
      letter = ap letter_of_lem T.packed ∙ letter-is T.source T.letter T.target (omega (arith, T.letter_known)) (omega (arith, T.target_listed));
      target = ap target_of T.packed ∙ target_is T.source T.letter T.target (omega (arith, T.letter_known)) (omega (arith, T.target_listed));
    }

-- ---- of a rule that passes the checks

module _ (r : Rule) (P : Passing r) where
  pub few_states : (automaton r).n ≤ 8
  unfolding automaton
  few_states = P.formed.few_states

  pub components-there : 0 < (automaton r).components
  unfolding automaton
  components-there = some-component r P

  pub letters-fit : r.s ≤ 256
  letters-fit = let h = P.formed.few_letters in omega arith

  module _ (start : Set) where
    -- the listed codes are those of the reachable macrostates
    pub reachable-iff : (c : ℕ) → Memᴰ c (macrostates_from r start) ↔ Reachable (automaton r) r.s start c
    unfolding macrostates_from
    reachable-iff = codes-iff (automaton r) (layered r P) few_states components-there r.s start

    pub macrostates-ascending : Ascending (macrostates_from r start)
    unfolding macrostates_from
    macrostates-ascending = codes-ascending (automaton r) (layered r P) few_states components-there r.s start

    pub transitions-ascending : Ascending (transitions_from r start)
    unfolding transitions_from
    transitions-ascending = steps-ascending (automaton r) r.s (macrostates_from r start)

    -- the listed transitions are the steps between listed codes over the letters
    pub transition-iff : length (macrostates_from r start) ≤ 65536 → (t : ℕ) → Memᴰ t (transitions_from r start) ↔ Transition (automaton r) r.s (macrostates_from r start) t
    unfolding transitions_from
    transition-iff room = steps-iff (automaton r) r.s (macrostates_from r start) (layered r P) letters-fit room

    -- the two lists hold the codes of the reachable macrostates, and their transitions
    pub lists-from : length (macrostates_from r start) ≤ 65536 → ListsFrom r start (macrostates_from r start) (transitions_from r start)
    lists-from room = record { codes_ascend = macrostates-ascending; codes_are = reachable-iff; transitions_ascend = transitions-ascending; transitions_are = transition-iff room }

  -- from 01's start condition
  pub lists-reachable : length (macrostates r) ≤ 65536 → ListsReachable r (macrostates r) (transitions r)
  lists-reachable = lists-from (holds_initial r)

-- ---- the numbers of a table: its transitions are steps of macrostates

pub record InRange (n s t : ℕ) : Type 0 where
  pub source : source_of t < n
  pub letter : letter_of_lem t < s
  pub target : target_of t < n

module _ (r : Rule) (P : Passing r) {kind : ℕ → Type 0} {codes ts : List ℕ} (L : Listed r kind codes ts) (room : length codes ≤ 65536) where
  -- a listed transition taken apart
  pub taken-apart : (t : ℕ) (T : Transition (automaton r) r.s codes t) → Leads t T.source T.letter T.target
  taken-apart = transition-leads (automaton r) r.s codes (layered r P) (letters-fit r P) room

  -- it is a step over a letter of the rule
  pub goes_by : (t x a y : ℕ) → Memᴰ t ts → Leads t x a y → Goes (automaton r) (get_or codes x 0) a (get_or codes y 0) × (a < r.s)
  goes_by t x a y m l =
      let T = (L.transitions_are t).0 m in
      let k = taken-apart t T in
      let e : T.source ≡ x = sym k.source ∙ l.source in
      let f : T.letter ≡ a = sym k.letter ∙ l.letter in
      let g : T.target ≡ y = sym k.target ∙ l.target in
      (rw (e, f, g) at T.steps, rw f at T.letter_known)

  pub in-range : (t : ℕ) → Memᴰ t ts → InRange (length codes) r.s t
  in-range t m =
      let T = (L.transitions_are t).0 m in
      let k = taken-apart t T in
      record { source = rw k.source T.source_listed; letter = rw k.letter T.letter_known; target = rw k.target T.target_listed }

-- the numbers of codes, and the transitions between them
pub record NumberedRun (codes ts : List ℕ) (w c : ℕ → ℕ) : Type 0 where
  pub number : ℕ → ℕ
  pub low : (i : ℕ) → number i < length codes
  pub same : (i : ℕ) → get_or codes (number i) 0 ≡ c i
  pub moves : (i : ℕ) → (t : ℕ) × Memᴰ t ts × Leads t (number i) (w i) (number (suc i))

-- an accepting run of codes is one of the table
module _ {codes ts : List ℕ} {w c : ℕ → ℕ} (N : NumberedRun codes ts w c) (again : (i : ℕ) → (j : ℕ) × (i < j) × (is_accepting_lem (c j) ≡ true)) where
  pub numbered-again : (i : ℕ) → (j : ℕ) × (i < j) × (is_accepting_lem (get_or codes (N.number j) 0) ≡ true)
  numbered-again i = let (j, l, e) = again i in (j, l, ap is_accepting_lem (N.same j) ∙ e)

  pub numbered-run : (start : Set) → begun start (c 0) ≡ true → AcceptingRun codes ts start w N.number
  numbered-run start e = record { run = record { within = N.low; begins = ap (begun start) (N.same 0) ∙ e; moves = N.moves }; again = numbered-again }

module _ (r : Rule) (P : Passing r) {start : Set} {codes ts : List ℕ} (L : ListsFrom r start codes ts) (room : length codes ≤ 65536) where
  pub macrostate-at : (m : ℕ) → m < length codes → Macrostate (automaton r) (get_or codes m 0)
  macrostate-at m l = reachable-macrostate (automaton r) (layered r P) (few_states r P) (components-there r P) r.s start ((L.codes_are (get_or codes m 0)).0 (mem-at codes m l))

  -- steps from a reachable macrostate on
  module _ (w c : ℕ → ℕ) (first : Reachable (automaton r) r.s start (c 0)) (known : (i : ℕ) → w i < r.s)
      (macrostate : (i : ℕ) → Macrostate (automaton r) (c i)) (steps : (i : ℕ) → Goes (automaton r) (c i) (w i) (c (suc i))) where
    reach : (i : ℕ) → Reachable (automaton r) r.s start (c i)
    reach zero = first
    reach (suc i) = goes_to (w i) (reach i) (known i) (macrostate (suc i)) (steps i)

    spot : (i : ℕ) → (x : ℕ) × (x < length codes) × (get_or codes x 0 ≡ c i)
    spot i = place_of codes (c i) ((L.codes_are (c i)).1 (reach i))

    transition-at : (i : ℕ) → Transition (automaton r) r.s codes ((spot i).0 * 16777216 + w i * 65536 + (spot (suc i)).0)
    transition-at i = transition-by (spot i).0 (w i) (spot (suc i)).0 (spot i).1 (known i) (spot (suc i)).1 refl (rw ((spot i).2, (spot (suc i)).2) (steps i))

    pub numbered : NumberedRun codes ts w c
    unfolding transition-at
    numbered = record {
      number = λ i. (spot i).0;
      low = λ i. (spot i).1;
      same = λ i. (spot i).2;
      moves = λ i. ((spot i).0 * 16777216 + w i * 65536 + (spot (suc i)).0, (L.transitions_are _).1 (transition-at i), taken-apart r P L room _ (transition-at i));
    }

  -- an accepting run of the table is one of codes
  module _ (w x : ℕ → ℕ) (run : AcceptingRun codes ts start w x) where
    pub codes-of : CodeRun (automaton r) w (λ i. get_or codes (x i) 0)
    codes-of = record {
      macrostate = λ i. macrostate-at (x i) (run.run.within i);
      component = begun-component start (get_or codes (x 0) 0) run.run.begins;
      classes = begun-classes start (get_or codes (x 0) 0) run.run.begins;
      steps = λ i. let (t, m, l) = run.run.moves i in (goes_by r P L room t (x i) (w i) (x (suc i)) m l).0;
      again = run.again;
    }

    pub codes-start : start (get_or codes (x 0) 0) ≡ true
    codes-start = begun-start start (get_or codes (x 0) 0) run.run.begins

  pub table-unique : (w x y : ℕ → ℕ) → AcceptingRun codes ts start w x → AcceptingRun codes ts start w y → (i : ℕ) → x i ≡ y i
  table-unique w x y t u i =
      asc-inj codes L.codes_ascend (x i) (y i) (t.run.within i) (u.run.within i)
      (code-unique (automaton r) (layered r P) w (λ j. get_or codes (x j) 0) (λ j. get_or codes (y j) 0) (codes-of w x t) (codes-of w y u) i)

  -- and a run of codes over the letters, whose first code meets the start condition, is one of the table
  pub table_of : (w c : ℕ → ℕ) → CodeRun (automaton r) w c → ((i : ℕ) → w i < r.s) → start (c 0) ≡ true → (x : ℕ → ℕ) × AcceptingRun codes ts start w x
  table_of w c run known first =
      let b = is-begun start (c 0) first run.component run.classes in
      let N = numbered w c (begins (run.macrostate 0) b) known run.macrostate run.steps in
      (N.number, numbered-run N run.again start b)
