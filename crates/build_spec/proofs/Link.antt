-- The keys that are gathered are those of the reachable macrostates.
use mathlib.Core.Path.{◌≡◌, refl, ap, ap₂, sym, ◌∙◌}
use mathlib.Core.Logic.{by_cases}
use mathlib.Core.Bool.{true, cond}
use mathlib.Core.List.{List}
use Prim.Native.Nat.{ℕ, ◌+◌, ◌*◌, ◌/◌, ◌%◌, ◌^◌, ◌≤◌, ◌<◌}
use native.Mathlib.Omega.{arith}
use native.Mathlib.Decide.{dec_lt, ℕ_discrete}
use lib.Dec.{ltb}
use borrow.Author.Tests.{lt-ltb, le-ltb}
use Rattle.sets.specs.Tests.{Set}
use Rattle.sets.specs.Masks.{mask}
use Rattle.sets.specs.Digits.{num}
use Rattle.sets.proofs.Tests.{first-max, largest-le}
use Rattle.sets.proofs.Digits.{num-lt}
use Rattle.theory.specs.Rule.{Rule}
use Rattle.theory.specs.Automaton.{Automaton, automaton}
use Rattle.theory.specs.Layered.{Layered}
use Rattle.theory.specs.Core.{Core, settled_up_to, next_component_lem}
use Rattle.theory.specs.CoreComputed.{level_of}
use Rattle.theory.specs.Code.{pack, set_in, rank_in, component_in, classes_in, well_coded}
use Rattle.theory.specs.Macrostate.{begun, Macrostate, Goes, Reachable}
use Rattle.theory.specs.Macrostate as macrostate
use Rattle.theory_laws.proofs.Cores.{classes-max, next_low}
use Rattle.theory_laws.proofs.Goes.{goes-iff}
use Rattle.theory_laws.proofs.Packing as packing
use Rattle.theory_laws.proofs.Layers.{layered}
use Rattle.theory_laws.proofs.Tables.{begun-start, begun-component, begun-classes, is-begun, reachable-macrostate, components-there}
use Rattle.build_cores.specs.Vectors.{rank_at}
use Rattle.build_cores.specs.Parts.{Parts, set_of, vector_of}
use Rattle.build_cores.proofs.Vectors.{rank-num, rank-high, ranks-eq, within-lt}
use Rattle.build_cores.proofs.Gaps.{rank-low}
use Rattle.build_cores.proofs.Cores.{set_beyond, rank-beyond, only-cores, vector-within, vector-passes}
use Rattle.build_step_back.specs.Earlier.{core_of, back_of, onto_of_lem, earlier_level, level_left, all_classes}
use Rattle.build_step_back.proofs.Codes.{pack-key, pair-in, pair-component, pair-low, core_is, goes-is, onto-turned, onto-stayed}
use Rattle.build_spec.specs.Reached.{Reached, begins, leads, ReachedKey}
use Rattle.build_spec.specs.Keys.{key_of, KeyOf, start_of, Cored, LeadsOver, KeyEdge, First}
use Rattle.build_spec.specs.Tables.{Shaped}
use Rattle.build_spec.specs.declared.Shape.{Shape}
use Rattle.build_spec.proofs.Keys.{key-parts, key-core, key-pair, key-of}
use Rattle.build_spec.proofs.Starting.{core-low}

module _ (A : Automaton) (H : Layered A) (parts : List ℕ) (P : Parts A parts) where
  -- ---- the core of a vector that is visited

  module _ (v : ℕ) (w : Cored parts A.components v) where
    trim-rank : (q : ℕ) → A.n ≤ q → rank_at v q ≡ 0
    trim-rank q l = by_cases (dec_lt q 8) (λ k. rank-beyond A parts P v w.within q l k) (λ k. rank-high v q (within-lt 8 v _ w.within) (omega arith))

    core-of : Core A (set_of A v) (rank_at v)
    core-of = only-cores A parts P v w.within w.passes

    low_digit : (q : ℕ) → cond (ltb q A.n) (rank_at v q) 0 < 16
    low_digit q = by_cases (dec_lt q A.n) (λ l. rw (lt-ltb q A.n l) (rank-low v q)) (λ l. rw (le-ltb q A.n (omega arith)) (omega arith))

    vector-same : vector_of A (rank_at v) ≡ v
    unfolding vector_of
    vector-same =
        ranks-eq (num 16 8 (λ q. cond (ltb q A.n) (rank_at v q) 0)) v (num-lt 16 (omega arith) 8 _ (λ q k. low_digit q)) (within-lt 8 v _ w.within)
        (λ q k. rank-num (λ q. cond (ltb q A.n) (rank_at v q) 0) (λ q k. low_digit q) q k
        ∙ by_cases (dec_lt q A.n) (λ l. rw (lt-ltb q A.n l)) (λ l. rw (le-ltb q A.n (omega arith)) (sym (trim-rank q (omega arith)))))

    pub core-fits : core_of A v < 2 ^ 40
    core-fits = core-low A v (within-lt 8 v _ w.within)

    module _ (K k : ℕ) (hK : K < A.components) (hk : k < 16) where
      sixteen : K < 16
      sixteen = omega (arith, P.few_components)

      -- the code of the core with K and k
      abbrev pub code : ℕ
      code = (K + 16 * k) * 2 ^ 40 + core_of A v

      code-packed : code ≡ pack (set_of A v) (rank_at v) K k
      unfolding core_of
      code-packed = sym (pack-key A (set_of A v) (rank_at v) K k trim-rank ∙ ap (λ (x : ℕ). (K + 16 * k) * 2 ^ 40 + (x * 2 ^ 8 + mask 8 (set_of A v))) vector-same)

      set-in : set_in A code ≡ set_of A v
      set-in = ap (set_in A) code-packed ∙ packing.set_is A P.few_states (set_of A v) (rank_at v) K k (set_beyond A v) trim-rank (rank-low v) sixteen hk

      rank-in : rank_in A code ≡ rank_at v
      rank-in = ap (rank_in A) code-packed ∙ packing.rank_is A P.few_states (set_of A v) (rank_at v) K k (set_beyond A v) trim-rank (rank-low v) sixteen hk

      pub component-is : component_in code ≡ K
      component-is = ap component_in code-packed ∙ packing.comp-is A P.few_states (set_of A v) (rank_at v) K k (set_beyond A v) trim-rank (rank-low v) sixteen hk

      pub classes-is : classes_in code ≡ k
      classes-is = ap classes_in code-packed ∙ packing.left_is A P.few_states (set_of A v) (rank_at v) K k (set_beyond A v) trim-rank (rank-low v) sixteen hk

      coded : well_coded A code ≡ true
      coded = ap (well_coded A) code-packed ∙ packing.well-coded-is A P.few_states (set_of A v) (rank_at v) K k (set_beyond A v) trim-rank (rank-low v) sixteen hk

      pub code-macrostate : Macrostate A code
      code-macrostate = record { coded = coded; core = rw (set-in, rank-in) core-of; component = rw component-is hK }

      pub vector-in : vector_of A (rank_in A code) ≡ v
      vector-in = ap (vector_of A) rank-in ∙ vector-same

    -- ---- the pair that a pair goes on to

    level-low : (a K k : ℕ) → level_left A a v K k ≤ 15
    unfolding level_left earlier_level level_of
    level-low a K k = largest-le A.n _ _ 15 (λ q l t. first-max 15 (settled_up_to A (set_of A v) (rank_at v) q (A.entry q a)) 0)

    all-low : (a K : ℕ) → all_classes A a v K ≤ 8
    unfolding all_classes
    all-low a K = let h = classes-max A (set_of A v) (rank_at v) core-of K in let n = P.few_states in omega arith

    pub onto-component : (a pair : ℕ) → pair % 16 < A.components → onto_of_lem A a v pair % 16 < A.components
    onto-component a pair h = let f = P.few_components in
        by_cases (ℕ_discrete (pair / 16) 0)
        (λ z. let e = onto-turned A a v pair z in let n = next_low A (pair % 16) h in omega arith)
        (λ z. let e = onto-stayed A a v pair z in omega arith)

    pub onto-low : (a pair : ℕ) → pair % 16 < A.components → onto_of_lem A a v pair < 256
    onto-low a pair h = let f = P.few_components in
        by_cases (ℕ_discrete (pair / 16) 0)
        (λ z. let e = onto-turned A a v pair z in let n = next_low A (pair % 16) h in let k = all-low a (next_component_lem A (pair % 16)) in omega arith)
        (λ z. let e = onto-stayed A a v pair z in let k = level-low a (pair % 16) (pair / 16) in omega arith)

    -- ---- a key of it that is led to is that of a macrostate

    pub step_in : (c a y : ℕ) → Macrostate A c → LeadsOver A v a (key_of c) y → (d : ℕ) × Macrostate A d × Goes A c a d × (y ≡ key_of d)
    step_in c a y M L =
        let low = pair-low A c M.coded in
        let part : c / 2 ^ 40 % 16 < A.components = rw (pair-component A c M.coded) M.component in
        let z = onto_of_lem A a v (c / 2 ^ 40) in
        let hz = onto-low a (c / 2 ^ 40) part in
        let hK = onto-component a (c / 2 ^ 40) part in
        at z hz hK refl low
      where
        at : (z : ℕ) → z < 256 → z % 16 < A.components → z ≡ onto_of_lem A a v (c / 2 ^ 40) → c / 2 ^ 40 < 256 → (d : ℕ) × Macrostate A d × Goes A c a d × (y ≡ key_of d)
        at z hz hK e low =
            let D = code-macrostate (z % 16) (z / 16) hK (omega arith) in
            let same = vector-in (z % 16) (z / 16) hK (omega arith) in
            let pair : z % 16 + 16 * (z / 16) ≡ z = omega arith in
            let top : ((z % 16 + 16 * (z / 16)) * 2 ^ 40 + core_of A v) / 2 ^ 40 ≡ z = omega (arith, core-fits) in
            let key : key_of ((z % 16 + 16 * (z / 16)) * 2 ^ 40 + core_of A v) ≡ core_of A v * 256 + z =
            key-of (z % 16 + 16 * (z / 16)) (core_of A v) core-fits ∙ ap (λ (x : ℕ). core_of A v * 256 + x) pair in (
              (z % 16 + 16 * (z / 16)) * 2 ^ 40 + core_of A v,
              D,
              (goes-iff A H c a ((z % 16 + 16 * (z / 16)) * 2 ^ 40 + core_of A v)).0
                  ((goes-is A parts P c a ((z % 16 + 16 * (z / 16)) * 2 ^ 40 + core_of A v) M.coded M.component D.coded D.core).1 (
                    sym (key-core c low) ∙ L.from ∙ ap (back_of A a) (sym same),
                    top ∙ e ∙ ap (λ (u : ℕ). onto_of_lem A a u (c / 2 ^ 40)) (sym same),
                  )),
              L.to ∙ ap (λ (x : ℕ). core_of A v * 256 + onto_of_lem A a v x) (key-pair c low) ∙ ap (λ (x : ℕ). core_of A v * 256 + x) (sym e) ∙ sym key,
            )

  -- ---- the vector of a macrostate

  module _ (c : ℕ) (M : Macrostate A c) where
    abbrev pub vector : ℕ
    vector = vector_of A (rank_in A c)

    pub vector-cored : Cored parts A.components vector
    vector-cored = record { within = vector-within A parts P (set_in A c) (rank_in A c) M.core; passes = vector-passes A parts P (set_in A c) (rank_in A c) M.core }

    pub vector-core : c % 2 ^ 40 ≡ core_of A vector
    vector-core = core_is A parts P c 0 c M.coded M.component M.coded M.core

  -- a step of macrostates is one of keys
  pub step-leads : (c a d : ℕ) → Macrostate A c → (N : Macrostate A d) → Goes A c a d → LeadsOver A (vector d N) a (key_of c) (key_of d)
  step-leads c a d M N G =
      let e = (goes-is A parts P c a d M.coded M.component N.coded N.core).0 ((goes-iff A H c a d).1 G) in
      let low = pair-low A c M.coded in record {
        from = key-core c low ∙ e.0;
        to = key-to (e.1 ∙ ap (onto_of_lem A a (vector d N)) (sym (key-pair c low)));
      }
    where
      key-to : {z : ℕ} → d / 2 ^ 40 ≡ z → key_of d ≡ core_of A (vector d N) * 256 + z
      key-to {z} q = key-parts d ∙ ap₂ (λ (x y : ℕ). x * 256 + y) (vector-core d N) q

  pub step-out : (s c a d : ℕ) → Macrostate A c → Macrostate A d → a < s → Goes A c a d → KeyEdge A parts A.components s (key_of c) (key_of d)
  step-out s c a d M N h G = (vector d N, vector-cored d N, (a, h, step-leads c a d M N G))

  -- ---- where a run may begin

  module _ (s : ℕ) (start : Set) (filled : 0 < A.components) where
    pub first_key : (v : ℕ) → Cored parts A.components v → start (core_of A v) ≡ true → (y : ℕ) → y ≡ core_of A v * 256 → KeyOf (Reachable A s start) y
    first_key v w t y q =
        let e : (0 + 16 * 0) * 2 ^ 40 + core_of A v ≡ core_of A v = omega arith in (
          (0 + 16 * 0) * 2 ^ 40 + core_of A v,
          macrostate.begins (code-macrostate v w 0 0 filled (omega arith))
              (is-begun start ((0 + 16 * 0) * 2 ^ 40 + core_of A v) (ap start e ∙ t) (component-is v w 0 0 filled (omega arith)) (classes-is v w 0 0 filled (omega arith))),
          q ∙ (let f : core_of A v * 256 ≡ core_of A v * 256 + (0 + 16 * 0) = omega arith in f) ∙ sym (key-of (0 + 16 * 0) (core_of A v) (core-fits v w)),
        )

    pub key-first : (c : ℕ) (M : Macrostate A c) → begun start c ≡ true → (start (core_of A (vector c M)) ≡ true) × (key_of c ≡ core_of A (vector c M) * 256)
    key-first c M b =
        let p = pair-in A c M.coded in
        let k = begun-component start c b in
        let n = begun-classes start c b in
        let e = vector-core c M in
        let z : c ≡ core_of A (vector c M) = omega arith in
        (ap start (sym z) ∙ begun-start start c b, key-parts c ∙ omega arith)

    -- ---- all that is reached

    module _ (F : ℕ → Type 0) where
      pub reached-key : ((y : ℕ) → F y → KeyOf (Reachable A s start) y) → {y : ℕ} → Reached F (KeyEdge A parts A.components s) y → KeyOf (Reachable A s start) y
      reached-key f (begins {x} h) = f x h
      reached-key f (leads {x} {y} R E) =
          let k = reached-key f R in
          let t = step_in E.0 E.1 k.0 E.2.0 y (reachable-macrostate A H P.few_states filled s start k.1) (rw k.2 at E.2.2) in
          (t.0, macrostate.goes_to E.2.0 k.1 E.2.1 t.1 t.2, t.3)

      pub key-reached : ((c : ℕ) → Macrostate A c → begun start c ≡ true → F (key_of c)) → {c : ℕ} → Reachable A s start c → Reached F (KeyEdge A parts A.components s) (key_of c)
      key-reached f (macrostate.begins {c} M b) = begins (f c M b)
      key-reached f (macrostate.goes_to {c} {d} a R l M G) = leads (key-reached f R) (step-out s c a d (reachable-macrostate A H P.few_states filled s start R) M l G)

-- every key that is reached has the number of a component
pub reached-paired : (A : Automaton) (H : Layered A) (parts : List ℕ) (P : Parts A parts) (s : ℕ) (F : ℕ → Type 0) → ((y : ℕ) → F y → y % 16 < A.components) → {y : ℕ} →
    Reached F (KeyEdge A parts A.components s) y → y % 16 < A.components
reached-paired A H parts P s F f (begins {x} h) = f x h
reached-paired A H parts P s F f (leads {x} {y} R (v, w, l)) =
    let h = reached-paired A H parts P s F f R in
    let k = onto-component A H parts P v w l.0 (x % 256) (omega arith) in omega (arith, l.2.to)

-- ---- of a rule

module _ {r : Rule} {parts : List ℕ} {shape : Shape} (S : Shaped r parts shape) where
  abbrev edge : ℕ → ℕ → Type 0
  edge = KeyEdge (automaton r) parts shape.components shape.s

  -- with the numbers of the shape
  edge-is : edge ≡ KeyEdge (automaton r) parts (automaton r).components r.s
  edge-is = ap₂ (λ (c s : ℕ). KeyEdge (automaton r) parts c s) S.components_are S.letters_are

  first-paired : (y : ℕ) → First r parts shape.components shape.holds y → y % 16 < (automaton r).components
  first-paired y f = let h = components-there r S.passing in omega (arith, f.1.1.key)

  pub key-paired : {y : ℕ} → ReachedKey r parts shape y → y % 16 < shape.components
  key-paired R = rw S.components_are (reached-paired (automaton r) (layered r S.passing) parts S.masks r.s (First r parts shape.components shape.holds) first-paired
      (rw edge-is at R))

  abbrev pub reachable : ℕ → Type 0
  reachable = Reachable (automaton r) r.s (start_of r shape.holds)

  first-reachable : (y : ℕ) → First r parts shape.components shape.holds y → KeyOf reachable y
  first-reachable y f = first_key (automaton r) (layered r S.passing) parts S.masks r.s (start_of r shape.holds) (components-there r S.passing) f.0
      (rw S.components_are at f.1.0) f.1.1.start y f.1.1.key

  reachable-first : (c : ℕ) → Macrostate (automaton r) c → begun (start_of r shape.holds) c ≡ true → First r parts shape.components shape.holds (key_of c)
  reachable-first c M b =
      let k = key-first (automaton r) (layered r S.passing) parts S.masks r.s (start_of r shape.holds) (components-there r S.passing) c M b in
      (vector_of (automaton r) (rank_in (automaton r) c), (rw S.components_are (vector-cored (automaton r) (layered r S.passing) parts S.masks c M), record { start = k.0; key = k.1 }))

  -- what is reached from the first keys are the keys of the reachable macrostates
  pub reached-in : (y : ℕ) → ReachedKey r parts shape y → KeyOf reachable y
  reached-in y R = reached-key (automaton r) (layered r S.passing) parts S.masks r.s (start_of r shape.holds) (components-there r S.passing)
      (First r parts shape.components shape.holds) first-reachable (rw edge-is at R)

  pub reached-out : (y : ℕ) → KeyOf reachable y → ReachedKey r parts shape y
  reached-out y k = rw (edge-is, k.2) (key-reached (automaton r) (layered r S.passing) parts S.masks r.s (start_of r shape.holds) (components-there r S.passing)
      (First r parts shape.components shape.holds) reachable-first k.1)
