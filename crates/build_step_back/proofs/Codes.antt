-- A macrostate goes over a letter to another exactly if its core is the step back of the other's, and its pair of K and k goes on to the other's.
use mathlib.Core.Path.{◌≡◌, ap, ap₂, sym, ◌∙◌, fun_ext}
use mathlib.Core.Logic.{◌↔◌, by_cases}
use mathlib.Core.Bool.{Bool, true, false, ◌&&◌, cond}
use mathlib.Core.List.{List}
use Prim.Native.Nat.{ℕ, ◌+◌, ◌*◌, ◌/◌, ◌%◌, ◌^◌, ◌≤◌, ◌<◌}
use native.Mathlib.Omega.{arith}
use native.Mathlib.Decide.{dec_lt, ℕ_discrete}
use lib.Dec.{leb, ltb}
use borrow.Author.Tests.{eqb-true, eq-eqb, ne_eqb, lt-ltb, le-ltb}
use Rattle.sets.specs.Tests.{Set, largest}
use Rattle.sets.specs.Masks.{mask}
use Rattle.sets.specs.Digits.{num}
use Rattle.sets.proofs.Bools.{bif}
use Rattle.sets.proofs.Masks.{mask_lt}
use Rattle.sets.proofs.Digits.{num-ext, num-lt}
use Rattle.theory.specs.Rule.{satisfies}
use Rattle.theory.specs.Automaton.{Automaton}
use Rattle.theory.specs.Core.{Core, open_of_lem, next_component_lem}
use Rattle.theory.specs.CoreComputed.{level_of, rank_of}
use Rattle.theory.specs.Code.{fields, pack, set_in, rank_in, component_in, classes_in, well_coded}
use Rattle.theory.specs.MacrostateComputed.{before, onward, goes}
use Rattle.theory_laws.proofs.Classes.{rank-max}
use Rattle.theory_laws.proofs.Cores.{next_low}
use Rattle.theory_laws.proofs.Goes.{rank-small, set-trim, rank-trim, before-set, before-rank, is-before, turn-component, turn-classes, stay-component, stay-classes, is_turned, is-stayed}
use Rattle.theory_laws.proofs.Goes.{goes_before, goes-onward, is-goes, component-small, classes-small}
use Rattle.theory_laws.proofs.Packing as packing
use Rattle.build_cores.specs.Vectors.{rank_at}
use Rattle.build_cores.specs.Parts.{Parts, set_of, vector_of}
use Rattle.build_cores.proofs.Cores.{vector-set-all, vector-rank-all}
use Rattle.build_step_back.specs.Earlier.{earlier_set, earlier_level, earlier_rank, core_of, back_of, level_left, all_classes, onto_of_lem}

module _ (A : Automaton) where
  vector-same : (r : ℕ → ℕ) → ((q : ℕ) → A.n ≤ q → r q ≡ 0) → num 16 8 r ≡ vector_of A r
  unfolding vector_of
  vector-same r h = num-ext 16 (omega arith) 8 r (λ q. cond (ltb q A.n) (r q) 0)
      (λ q k. by_cases (dec_lt q A.n) (λ l. rw (lt-ltb q A.n l)) (λ l. rw (le-ltb q A.n (omega arith)) (h q (omega arith))))

  fields-rank : (r : ℕ → ℕ) (K k q : ℕ) → q < 8 → fields r K k q ≡ r q
  unfolding fields
  fields-rank r K k q l = rw (lt-ltb q 8 l)

  -- a code is its pair above its core
  pub pack-key : (S : Set) (r : ℕ → ℕ) (K k : ℕ) → ((q : ℕ) → A.n ≤ q → r q ≡ 0) → pack S r K k ≡ (K + 16 * k) * 2 ^ 40 + (vector_of A r * 2 ^ 8 + mask 8 S)
  unfolding pack num fields
  pack-key S r K k h =
      let e : num 16 8 (fields r K k) ≡ vector_of A r = num-ext 16 (omega arith) 8 (fields r K k) r (λ q l. fields-rank r K k q l) ∙ vector-same r h in
      omega arith

  core-small : (S : Set) (r : ℕ → ℕ) → ((q : ℕ) → q < 8 → r q < 16) → ((q : ℕ) → A.n ≤ q → r q ≡ 0) → vector_of A r * 2 ^ 8 + mask 8 S < 2 ^ 40
  core-small S r low h = let n = num-lt 16 (omega arith) 8 r low in let e = vector-same r h in let m = mask_lt 8 S in omega arith

  pub earlier-rank-low : A.n ≤ 8 → (a v q : ℕ) → earlier_rank A a v q < 16
  unfolding earlier_rank
  earlier-rank-low few a v q = bif (ltb q A.n) (λ t. rw t (let h = rank-max A (earlier_set A a v) (earlier_level A a v) q in omega arith)) (λ t. rw t (omega arith))

  pub earlier-set-beyond : (a v q : ℕ) → A.n ≤ q → earlier_set A a v q ≡ false
  unfolding earlier_set
  earlier-set-beyond a v q l = ap (λ (b : Bool). b && satisfies A.n (set_of A v) (A.entry q a)) (le-ltb q A.n l)

  earlier-rank-beyond : (a v q : ℕ) → A.n ≤ q → earlier_rank A a v q ≡ 0
  unfolding earlier_rank
  earlier-rank-beyond a v q l = ap (λ (b : Bool). cond b (rank_of A (earlier_set A a v) (earlier_level A a v) q) 0) (le-ltb q A.n l)

  -- a pair goes on, with no class left and with some
  pub onto-turned : (a v pair : ℕ) → pair / 16 ≡ 0 → onto_of_lem A a v pair ≡ next_component_lem A (pair % 16) + 16 * all_classes A a v (next_component_lem A (pair % 16))
  unfolding onto_of_lem
  onto-turned a v pair z = rw (eq-eqb (pair / 16) 0 z)

  pub onto-stayed : (a v pair : ℕ) → (pair / 16 ≡ 0 → ⊥) → onto_of_lem A a v pair ≡ pair % 16 + 16 * level_left A a v (pair % 16) (pair / 16)
  unfolding onto_of_lem
  onto-stayed a v pair z = rw (ne_eqb (pair / 16) 0 z)

  -- numbers of cores have 40 bits
  pub back_low : A.n ≤ 8 → (a v : ℕ) → back_of A a v < 2 ^ 40
  unfolding back_of
  back_low few a v = core-small (earlier_set A a v) (earlier_rank A a v) (λ q l. earlier-rank-low few a v q) (earlier-rank-beyond a v)

  -- the parts of a code
  module _ (c : ℕ) (w : well_coded A c ≡ true) where
    unpacked : c ≡ (component_in c + 16 * classes_in c) * 2 ^ 40 + (vector_of A (rank_in A c) * 2 ^ 8 + mask 8 (set_in A c))
    unfolding well_coded
    unpacked = sym (eqb-true (pack (set_in A c) (rank_in A c) (component_in c) (classes_in c)) c w) ∙ pack-key (set_in A c) (rank_in A c) (component_in c) (classes_in c) (rank-trim A c)

    small : vector_of A (rank_in A c) * 2 ^ 8 + mask 8 (set_in A c) < 2 ^ 40
    small = core-small (set_in A c) (rank_in A c) (λ q l. let h = rank-small A c q in omega arith) (rank-trim A c)

    pub core-in : c % 2 ^ 40 ≡ vector_of A (rank_in A c) * 2 ^ 8 + mask 8 (set_in A c)
    core-in = let u = unpacked in let s = small in omega arith

    pub pair-in : c / 2 ^ 40 ≡ component_in c + 16 * classes_in c
    pair-in = let u = unpacked in let s = small in omega arith

    pub pair-component : c / 2 ^ 40 % 16 ≡ component_in c
    pair-component = let p = pair-in in let h = component-small c in omega arith

    pub pair-classes : c / 2 ^ 40 / 16 ≡ classes_in c
    pair-classes = let p = pair-in in let h = component-small c in omega arith

    -- the pair has 8 bits
    pub pair-low : c / 2 ^ 40 < 256
    pair-low = let e = pair-in in let h = component-small c in let k = classes-small c in omega arith

module _ (A : Automaton) (parts : List ℕ) (P : Parts A parts) (c a d : ℕ) (wc : well_coded A c ≡ true) (known : component_in c < A.components) (wd : well_coded A d ≡ true)
    (C : Core A (set_in A d) (rank_in A d)) where
  -- the vector of d's ranks
  abbrev v : ℕ
  v = vector_of A (rank_in A d)

  same_set : set_of A v ≡ set_in A d
  same_set = vector-set-all A parts P (set_in A d) (rank_in A d) C (set-trim A d)

  same_rank : rank_at v ≡ rank_in A d
  same_rank = vector-rank-all A parts P (set_in A d) (rank_in A d) C (rank-trim A d)

  -- d's core is the core of its vector
  pub core_is : d % 2 ^ 40 ≡ core_of A v
  unfolding core_of
  core_is = core-in A d wd ∙ ap (λ (S : Set). v * 2 ^ 8 + mask 8 S) (sym same_set)

  abbrev levels : ℕ → ℕ
  levels p = level_of A 15 (set_in A d) (rank_in A d) p (A.entry p a)

  same-level : earlier_level A a v ≡ levels
  unfolding earlier_level
  same-level = fun_ext (λ p. ap₂ (λ (T : Set) (t : ℕ → ℕ). level_of A 15 T t p (A.entry p a)) same_set same_rank)

  set-at : (q : ℕ) → q < A.n → earlier_set A a v q ≡ satisfies A.n (set_in A d) (A.entry q a)
  unfolding earlier_set
  set-at q l = ap₂ (λ (b : Bool) (T : Set). b && satisfies A.n T (A.entry q a)) (lt-ltb q A.n l) same_set

  rank-at : (q : ℕ) → q < A.n → earlier_rank A a v q ≡ rank_of A (earlier_set A a v) levels q
  unfolding earlier_rank
  rank-at q l = ap₂ (λ (b : Bool) (f : ℕ → ℕ). cond b (rank_of A (earlier_set A a v) f q) 0) (lt-ltb q A.n l) same-level

  rank-sixteen : (q : ℕ) → earlier_rank A a v q < 16
  rank-sixteen q = earlier-rank-low A P.few_states a v q

  -- ---- the core

  module _ (t : before A c a d ≡ true) where
    set-of-before : set_in A c ≡ earlier_set A a v
    set-of-before = fun_ext (λ q. by_cases (dec_lt q A.n) (λ l. before-set A c a d t q l ∙ sym (set-at q l)) (λ l. set-trim A c q (omega arith) ∙ sym (earlier-set-beyond A a v q (omega arith))))

    rank-of-before : rank_in A c ≡ earlier_rank A a v
    rank-of-before = fun_ext (λ q. by_cases (dec_lt q A.n)
        (λ l. before-rank A c a d t q l ∙ ap (λ (S : Set). rank_of A S levels q) set-of-before ∙ sym (rank-at q l))
        (λ l. rank-trim A c q (omega arith) ∙ sym (earlier-rank-beyond A a v q (omega arith))))

  before-in : before A c a d ≡ true → c % 2 ^ 40 ≡ back_of A a v
  unfolding back_of
  before-in t = core-in A c wc ∙ ap₂ (λ (r : ℕ → ℕ) (S : Set). vector_of A r * 2 ^ 8 + mask 8 S) (rank-of-before t) (set-of-before t)

  module _ (e : c % 2 ^ 40 ≡ back_of A a v) where
    repacked : c ≡ pack (earlier_set A a v) (earlier_rank A a v) (component_in c) (classes_in c)
    unfolding back_of
    repacked = let p = pair-in A c wc in let k = pack-key A (earlier_set A a v) (earlier_rank A a v) (component_in c) (classes_in c) (earlier-rank-beyond A a v) in omega (arith, e)

    set-of-back : set_in A c ≡ earlier_set A a v
    set-of-back = ap (set_in A) repacked ∙ packing.set_is A P.few_states (earlier_set A a v) (earlier_rank A a v) (component_in c) (classes_in c) (earlier-set-beyond A a v)
        (earlier-rank-beyond A a v) rank-sixteen (component-small c) (classes-small c)

    rank-of-back : rank_in A c ≡ earlier_rank A a v
    rank-of-back = ap (rank_in A) repacked ∙ packing.rank_is A P.few_states (earlier_set A a v) (earlier_rank A a v) (component_in c) (classes_in c) (earlier-set-beyond A a v)
        (earlier-rank-beyond A a v) rank-sixteen (component-small c) (classes-small c)

    before-out : before A c a d ≡ true
    before-out = is-before A c a d
        (λ q l. ap (λ (S : Set). S q) set-of-back ∙ set-at q l)
        (λ q l. ap (λ (r : ℕ → ℕ). r q) rank-of-back ∙ rank-at q l ∙ ap (λ (S : Set). rank_of A S levels q) (sym set-of-back))

  -- ---- component and classes left

  turned-is : all_classes A a v (component_in d) ≡ largest A.n (open_of_lem A (set_in A d) (component_in d)) (rank_in A d)
  unfolding all_classes
  turned-is = ap₂ (λ (T : Set) (t : ℕ → ℕ). largest A.n (open_of_lem A T (component_in d)) t) same_set same_rank

  stayed-is : (S : set_in A c ≡ earlier_set A a v) → (r : rank_in A c ≡ earlier_rank A a v)
      → level_left A a v (component_in c) (classes_in c) ≡ largest A.n (λ q. open_of_lem A (set_in A c) (component_in c) q && leb (rank_in A c q) (classes_in c)) levels
  unfolding level_left
  stayed-is S r =
      ap (λ (f : ℕ → ℕ). largest A.n (λ q. open_of_lem A (earlier_set A a v) (component_in c) q && leb (earlier_rank A a v q) (classes_in c)) f) same-level
      ∙ ap₂ (λ (T : Set) (t : ℕ → ℕ). largest A.n (λ q. open_of_lem A T (component_in c) q && leb (t q) (classes_in c)) levels) (sym S) (sym r)

  abbrev pair : ℕ
  pair = c / 2 ^ 40

  onto-turn : classes_in c ≡ 0 → onto_of_lem A a v pair ≡ next_component_lem A (component_in c) + 16 * all_classes A a v (next_component_lem A (component_in c))
  onto-turn z = rw (pair-component A c wc) at (onto-turned A a v pair (pair-classes A c wc ∙ z))

  onto-stay : (classes_in c ≡ 0 → ⊥) → onto_of_lem A a v pair ≡ component_in c + 16 * level_left A a v (component_in c) (classes_in c)
  onto-stay z = rw (pair-component A c wc, pair-classes A c wc) at (onto-stayed A a v pair (λ e. z (sym (pair-classes A c wc) ∙ e)))

  module _ (S : set_in A c ≡ earlier_set A a v) (r : rank_in A c ≡ earlier_rank A a v) where
    onward-in : onward A c a d ≡ true → d / 2 ^ 40 ≡ onto_of_lem A a v pair
    onward-in t = pair-in A d wd ∙ by_cases (ℕ_discrete (classes_in c) 0)
        (λ z. let n = turn-component A c a d t z in let k = turn-classes A c a d t z in
        ap₂ (λ (x y : ℕ). x + 16 * y) n (k ∙ sym turned-is ∙ ap (all_classes A a v) n) ∙ sym (onto-turn z))
        (λ z. let n = stay-component A c a d t z in let k = stay-classes A c a d t z in
        ap₂ (λ (x y : ℕ). x + 16 * y) n (k ∙ sym (stayed-is S r)) ∙ sym (onto-stay z))

    onward-out : d / 2 ^ 40 ≡ onto_of_lem A a v pair → onward A c a d ≡ true
    onward-out e = by_cases (ℕ_discrete (classes_in c) 0)
        (λ z. let p = sym (pair-in A d wd) ∙ e ∙ onto-turn z in
        let b = next_low A (component_in c) known in let l = component-small d in let f = P.few_components in
        let n : component_in d ≡ next_component_lem A (component_in c) = omega arith in
        let k : classes_in d ≡ all_classes A a v (next_component_lem A (component_in c)) = omega arith in
        is_turned A c a d z n (k ∙ ap (all_classes A a v) (sym n) ∙ turned-is))
        (λ z. let p = sym (pair-in A d wd) ∙ e ∙ onto-stay z in
        let b = component-small c in let l = component-small d in
        let n : component_in d ≡ component_in c = omega arith in
        let k : classes_in d ≡ level_left A a v (component_in c) (classes_in c) = omega arith in
        is-stayed A c a d z n (k ∙ stayed-is S r))

  pub goes-is : (goes A c a d ≡ true) ↔ ((c % 2 ^ 40 ≡ back_of A a v) × (d / 2 ^ 40 ≡ onto_of_lem A a v (c / 2 ^ 40)))
  goes-is = (
    λ t. let b = goes_before A c a d t in (before-in b, onward-in (set-of-before b) (rank-of-before b) (goes-onward A c a d t)),
    λ e. is-goes A c a d (before-out e.0) (onward-out (set-of-back e.0) (rank-of-back e.0) e.1),
  )
