-- Over a letter a macrostate is reached from at most one macrostate with k = 0 and at most one with k > 0, both with the same core.
use mathlib.Core.Path.{◌≡◌, sym, ◌∙◌, ap, ap₂}
use mathlib.Core.Logic.{by_cases}
use mathlib.Core.Bool.{true, ◌&&◌}
use mathlib.Core.List.{List, Memᴰ}
use Prim.Native.Nat.{ℕ, suc, ◌-◌, ◌≤◌, ◌<◌}
use native.Mathlib.Omega.{arith}
use native.Mathlib.Decide.{dec_lt, ℕ_discrete}
use lib.Dec.{leb}
use lib.ListN.{length, get_or}
use borrow.Author.Tests.{eqb-true, eq-eqb, leb-true, le-leb}
use Rattle.sets.specs.Tests.{Set, largest}
use Rattle.sets.proofs.Bools.{and_l, and_r, and_i}
use Rattle.sets.proofs.Lists.{mem-at}
use Rattle.sets.proofs.Tests.{largest-ge, largest-le, largest-hit}
use Rattle.sets.proofs.Ascending.{asc-inj}
use Rattle.theory.specs.Automaton.{Automaton, automaton}
use Rattle.theory.specs.Code.{set_in, rank_in, component_in, classes_in, pack, well_coded}
use Rattle.theory.specs.Core.{open_of_lem, next_component_lem}
use Rattle.theory.specs.Macrostate.{is_accepting_lem, Macrostate, Goes, Reachable}
use Rattle.theory.specs.Passing.{Passing}
use Rattle.theory.specs.Rule.{Rule}
use Rattle.theory.specs.Run.{source_of, letter_of_lem, target_of}
use Rattle.theory.specs.Table.{Transition}
use Rattle.theory.specs.TableComputed.{macrostates_from, transitions_from}
use Rattle.theory_laws.proofs.Classes.{open-component, open-state}
use Rattle.theory_laws.proofs.Cores.{earlier-set, earlier-level, earlier-rank, next-below, next_last}
use Rattle.theory_laws.proofs.Layers.{layered}
use Rattle.theory_laws.proofs.Tables.{few_states, components-there, letters-fit, reachable-macrostate, reachable-classes, reachable-iff, macrostates-ascending, transitions-ascending}
use Rattle.theory_laws.proofs.Tables.{transition-iff, transition-leads}
use Rattle.spare_spec.specs.Spare.{SameCore}
use Rattle.stricter_laws.proofs.Steps.{level-less}
use Rattle.stricter_laws.proofs.Along.{same_set, same-ranks}
use Rattle.trim_spec.specs.Graph.{Inside}
use Rattle.stricter_spec.specs.Search.{OneParent, Searchable}

-- the next component is another for each
next_one : (A : Automaton) (K L : ℕ) → K < A.components → L < A.components → next_component_lem A K ≡ next_component_lem A L → K ≡ L
next_one A K L k l e =
    by_cases (ℕ_discrete (suc K) A.components)
    (λ x. by_cases (ℕ_discrete (suc L) A.components)
    (λ y. omega arith)
    (λ y. let z = sym (next_last A K x) ∙ e ∙ next-below A L (omega arith) in absurd (omega arith)))
    (λ x. by_cases (ℕ_discrete (suc L) A.components)
    (λ y. let z = sym (next-below A K (omega arith)) ∙ e ∙ next_last A L y in absurd (omega arith))
    (λ y. let z = sym (next-below A K (omega arith)) ∙ e ∙ next-below A L (omega arith) in omega arith))

-- the classes of K in the core of c
abbrev classes_of_lem : Automaton → ℕ → ℕ
classes_of_lem A c = largest A.n (open_of_lem A (set_in A c) (component_in c)) (rank_in A c)

-- the states of K that are still to be discharged
abbrev left_in : Automaton → ℕ → Set
left_in A c q = open_of_lem A (set_in A c) (component_in c) q && leb (rank_in A c q) (classes_in c)

-- c and b both go over the letter a to d
module _ {A : Automaton} {a d c b : ℕ} (G : Goes A c a d) (G' : Goes A b a d) where
  -- they have the same core
  same : SameCore A c b
  same = record {
    sets = earlier-set A a (set_in A d) (rank_in A d) (set_in A c) (set_in A b) (rank_in A c) (rank_in A b) G.level G'.level G.earlier G'.earlier;
    ranks = earlier-rank A a (set_in A d) (rank_in A d) (set_in A c) (set_in A b) (rank_in A c) (rank_in A b) G.level G'.level G.earlier G'.earlier;
  }

  same_code : Macrostate A c → Macrostate A b → component_in c ≡ component_in b → classes_in c ≡ classes_in b → c ≡ b
  unfolding well_coded
  same_code M N e f =
      sym (eqb-true _ _ M.coded)
      ∙ ap₂ (λ (S : Set) (r : ℕ → ℕ). pack S r (component_in c) (classes_in c)) (same_set same) (same-ranks same)
      ∙ ap₂ (pack (set_in A b) (rank_in A b)) e f
      ∙ eqb-true _ _ N.coded

  -- k is 0 in both
  same_turn : Macrostate A c → Macrostate A b → classes_in c ≡ 0 → classes_in b ≡ 0 → c ≡ b
  same_turn M N e f = same_code M N (next_one A _ _ M.component N.component (sym (G.next e) ∙ G'.next f)) (e ∙ sym f)

  -- k is not 0
  same-component : (classes_in c ≡ 0 → ⊥) → (classes_in b ≡ 0 → ⊥) → component_in c ≡ component_in b
  same-component z y = sym (G.stays z) ∙ G'.stays y

  -- a larger k has a class more, whose level is larger
  module _ (stay : classes_in c ≡ 0 → ⊥) (stay' : classes_in b ≡ 0 → ⊥) (full' : classes_in b ≤ classes_of_lem A b) (less : classes_in c < classes_in b) where
    -- a state of each rank from 1 to the number of classes
    state-of : (j : ℕ) → 1 ≤ j → j ≤ classes_in b → (q : ℕ) × (q < A.n) × (open_of_lem A (set_in A b) (component_in b) q ≡ true) × (rank_in A b q ≡ j)
    unfolding open_of_lem
    state-of j l m =
        let h = largest-hit A.n (open_of_lem A (set_in A b) (component_in b)) (rank_in A b) (omega (arith, full')) in
        let g = G'.earlier.core.gapless h.0 j h.1 (open-state A (set_in A b) (component_in b) h.0 h.2) l (omega (arith, h.3, full')) in
        (g.0, g.1, and_i (eq-eqb _ _ (g.2 ∙ open-component A (set_in A b) (component_in b) h.0 h.2)) g.3, g.4)

    -- a state of a higher rank has a higher level
    above : (p q : ℕ) → p < A.n → q < A.n → open_of_lem A (set_in A b) (component_in b) p ≡ true → open_of_lem A (set_in A b) (component_in b) q ≡ true
        → rank_in A b p < rank_in A b q → G'.level p < G'.level q
    above p q l m o u =
        level-less G'.earlier p q l m (open-component A (set_in A b) (component_in b) p o ∙ sym (open-component A (set_in A b) (component_in b) q u))
        (open-state A (set_in A b) (component_in b) p o) (open-state A (set_in A b) (component_in b) q u)

    same-open : (p : ℕ) → open_of_lem A (set_in A c) (component_in c) p ≡ true → open_of_lem A (set_in A b) (component_in b) p ≡ true
    same-open p o = rw (same_set same, same-component stay stay') at o

    -- what is left of c has levels below that of a state of b's highest class left
    low : (q : ℕ) → q < A.n → open_of_lem A (set_in A b) (component_in b) q ≡ true → rank_in A b q ≡ classes_in b → (p : ℕ) → p < A.n → left_in A c p ≡ true → G.level p ≤ G'.level q - 1
    low q m u e p l t =
        let o = and_l (open_of_lem A (set_in A c) (component_in c) p) (leb (rank_in A c p) (classes_in c)) t in
        let k = leb-true (rank_in A c p) (classes_in c) (and_r (open_of_lem A (set_in A c) (component_in c) p) (leb (rank_in A c p) (classes_in c)) t) in
        let f = same.ranks p l in
        let g = earlier-level A a (set_in A d) (rank_in A d) (set_in A c) (set_in A b) (rank_in A c) (rank_in A b) G.level G'.level G.earlier G'.earlier p l
        (open-state A (set_in A c) (component_in c) p o) in
        let h = above p q l m (same-open p o) u (omega arith) in
        omega arith

    no_less : ⊥
    no_less =
        let (q, m, u, e) = state-of (classes_in b) (omega arith) (omega arith) in
        let (p, l, o, f) = state-of (classes_in c) (omega arith) (omega arith) in
        let x = above p q l m o u (omega arith) in
        let y = largest-le A.n (left_in A c) G.level (G'.level q - 1) (low q m u e) in
        let z = largest-ge A.n (left_in A b) G'.level q m (and_i u (le-leb (rank_in A b q) (classes_in b) (omega arith))) in
        let v = G.left stay in
        let w = G'.left stay' in
        omega arith

-- c and b go over the letter a to d, both with k = 0 or both with k > 0: they are the same
one-source : (A : Automaton) (a d c b : ℕ) → Goes A c a d → Goes A b a d → Macrostate A c → Macrostate A b → classes_in c ≤ classes_of_lem A c → classes_in b ≤ classes_of_lem A b
    → is_accepting_lem c ≡ is_accepting_lem b → c ≡ b
unfolding is_accepting_lem
one-source A a d c b G H M N full full' e =
    by_cases (ℕ_discrete (classes_in c) 0)
    (λ z. same_turn G H M N z (eqb-true (classes_in b) 0 (sym e ∙ eq-eqb (classes_in c) 0 z)))
    (λ z. let y : classes_in b ≡ 0 → ⊥ = λ y. z (eqb-true (classes_in c) 0 (e ∙ eq-eqb (classes_in b) 0 y)) in
    same_code G H M N (same-component G H z y) (level-with z y))
  where
    level-with : (classes_in c ≡ 0 → ⊥) → (classes_in b ≡ 0 → ⊥) → classes_in c ≡ classes_in b
    level-with z y =
        by_cases (dec_lt (classes_in c) (classes_in b)) (λ l. absurd (no_less G H z y full' l))
        (λ l. by_cases (dec_lt (classes_in b) (classes_in c)) (λ m. absurd (no_less H G y z full m)) (λ m. omega arith))

-- ---- a built table, from any start condition

module _ {r : Rule} (P : Passing r) (start : Set) (room : length (macrostates_from r start) ≤ 65536) where
  abbrev A : Automaton
  A = automaton r

  abbrev codes : List ℕ
  codes = macrostates_from r start

  abbrev moves : List ℕ
  moves = transitions_from r start

  pub reachable-at : (x : ℕ) → x < length codes → Reachable A r.s start (get_or codes x 0)
  reachable-at x l = (reachable-iff r P start (get_or codes x 0)).0 (mem-at codes x l)

  pub macrostate-at : (x : ℕ) → x < length codes → Macrostate A (get_or codes x 0)
  macrostate-at x l = reachable-macrostate A (layered r P) (few_states r P) (components-there r P) r.s start (reachable-at x l)

  full_at : (x : ℕ) → x < length codes → classes_in (get_or codes x 0) ≤ classes_of_lem A (get_or codes x 0)
  full_at x l = reachable-classes A (layered r P) (few_states r P) (components-there r P) r.s start (reachable-at x l)

  pub listed : {t : ℕ} → Memᴰ t moves → Transition A r.s codes t
  listed {t = t} m = (transition-iff r P start room t).0 m

  pub source-of : {t : ℕ} (T : Transition A r.s codes t) → source_of t ≡ T.source
  source-of {t = t} T = (transition-leads A r.s codes (layered r P) (letters-fit r P) room t T).source

  pub letter-of : {t : ℕ} (T : Transition A r.s codes t) → letter_of_lem t ≡ T.letter
  letter-of {t = t} T = (transition-leads A r.s codes (layered r P) (letters-fit r P) room t T).letter

  pub target-of : {t : ℕ} (T : Transition A r.s codes t) → target_of t ≡ T.target
  target-of {t = t} T = (transition-leads A r.s codes (layered r P) (letters-fit r P) room t T).target

  -- the letters of transitions are those of the rule
  pub letter-low : {t : ℕ} → Memᴰ t moves → letter_of_lem t < r.s
  letter-low m = let T = listed m in rw (letter-of T) T.letter_known

  pub table-inside : Inside (length codes) moves
  table-inside = record {
    sources = λ t m. let T = listed m in rw (source-of T) T.source_listed;
    targets = λ t m. let T = listed m in rw (target-of T) T.target_listed;
  }

  same-parent : {t u : ℕ} (T : Transition A r.s codes t) (U : Transition A r.s codes u) → T.letter ≡ U.letter → T.target ≡ U.target
      → is_accepting_lem (get_or codes T.source 0) ≡ is_accepting_lem (get_or codes U.source 0) → T.source ≡ U.source
  same-parent T U e f g =
      let H : Goes A (get_or codes U.source 0) T.letter (get_or codes T.target 0) = rw (e, f) U.steps in
      asc-inj codes (macrostates-ascending r P start) T.source U.source T.source_listed U.source_listed
      (one-source A T.letter (get_or codes T.target 0) (get_or codes T.source 0) (get_or codes U.source 0) T.steps H
      (macrostate-at T.source T.source_listed) (macrostate-at U.source U.source_listed)
      (full_at T.source T.source_listed) (full_at U.source U.source_listed) g)

  -- over a letter a number has at most one accepting source and at most one other
  pub one_parent : OneParent codes moves
  one_parent = record {
    one = λ t u m n e f g.
        let T = listed m in
        let U = listed n in
        source-of T
        ∙ same-parent T U (sym (letter-of T) ∙ e ∙ letter-of U) (sym (target-of T) ∙ f ∙ target-of U)
        (ap (λ (x : ℕ). is_accepting_lem (get_or codes x 0)) (sym (source-of T)) ∙ g ∙ ap (λ (x : ℕ). is_accepting_lem (get_or codes x 0)) (source-of U))
        ∙ sym (source-of U);
  }

  -- the table is one that the search takes
  pub searchable : Searchable codes moves
  searchable = record {
    few = room;
    ascend = transitions-ascending r P start;
    inside = table-inside;
    lettered = λ t m. let l = letter-low m in let h = P.formed.few_letters in omega arith;
    parents = one_parent;
  }
