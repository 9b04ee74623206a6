-- Letter by letter into one core, and core by core.
use mathlib.Core.Path.{◌≡◌, refl, ap, sym, ◌∙◌}
use mathlib.Core.List.{List}
use Prim.Native.Nat.{ℕ, ◌/◌, ◌%◌, ◌≤◌, ◌<◌}
use native.Mathlib.Omega.{arith}
use Rattle.sets.proofs.Masks.{mask_lt}
use Rattle.theory.specs.Automaton.{Automaton, automaton}
use Rattle.theory.specs.Macrostate.{Macrostate}
use Rattle.theory.specs.Rule.{Rule}
use Rattle.theory.specs.Run.{letter_of_lem, target_of}
use Rattle.theory_laws.proofs.Layers.{layered}
use Rattle.theory_laws.proofs.Tables.{few_states, components-there, reachable-macrostate, target_is, letter-is}
use Rattle.build_cores.specs.Parts.{set_of}
use Rattle.build_step_back.specs.Earlier.{core_of}
use Rattle.build_step_back.proofs.Codes.{pair-low}
use Rattle.build_spec.specs.Chains.{key_at, Before, Chained}
use Rattle.build_spec.specs.Keys.{start_of, key_of, Cored}
use Rattle.build_spec.specs.Reached.{ReachedKey, AllReached}
use Rattle.build_spec.specs.Tables.{RuleTables}
use Rattle.build_spec.specs.declared.Shape.{Shape}
use Rattle.build_spec.proofs.Keys.{key-core}
use Rattle.build_spec.proofs.Link.{vector, vector-cored, vector-core, onto-low, key-paired, reached-in}
use Rattle.build_spec.specs.Emission.{Over, Into, vector_at, Done}

pub core-vector : (A : Automaton) (v : ℕ) → core_of A v / 256 ≡ v
unfolding core_of
core-vector A v = omega (arith, mask_lt 8 (set_of A v))

-- ---- letters: those below a are done

-- transitions over different letters are different
pub letters-apart : {r : Rule} {opens parts : List ℕ} {shape : Shape} → RuleTables r opens parts shape → (keys : List ℕ) (v : ℕ) {n : ℕ} → n ≤ 65536 → (a : ℕ) → a < shape.s → (y : ℕ)
    → Into (automaton r) a keys n v y → Over (automaton r) keys n v a y → ⊥
letters-apart T keys v few a known y f k =
    let low : a < 256 = omega (arith, T.shaped.letters_are, T.table.few_letters) in
    let e : f.0 ≡ a = sym (letter-is f.2.0 f.0 f.2.2.0 (omega (arith, f.1)) (omega (arith, f.2.2.1))) ∙ ap letter_of_lem (sym f.2.2.3 ∙ k.2.3)
    ∙ letter-is k.0 a k.2.0 low (omega (arith, k.2.1)) in
    omega (arith, f.1)

-- ---- the keys: each that of a macrostate

module _ {r : Rule} {opens parts : List ℕ} {shape : Shape} (T : RuleTables r opens parts shape) where
  abbrev A : Automaton
  A = automaton r

  -- the vector of a key is that of a core, and the core is its
  pub key-cored : (y : ℕ) → ReachedKey r parts shape y → Cored parts shape.components (y / 256 / 256) × (y / 256 ≡ core_of A (y / 256 / 256))
  key-cored y R =
      let k = reached-in T.shaped y R in
      let M = reachable-macrostate A (layered r T.shaped.passing) (few_states r T.shaped.passing) (components-there r T.shaped.passing) r.s (start_of r shape.holds) k.1 in
      at k.0 M k.2
    where
      at : (c : ℕ) (M : Macrostate A c) → y ≡ key_of c → Cored parts shape.components (y / 256 / 256) × (y / 256 ≡ core_of A (y / 256 / 256))
      at c M e =
          let v = vector A (layered r T.shaped.passing) parts T.shaped.masks c M in
          let core : y / 256 ≡ core_of A v = ap (λ (x : ℕ). x / 256) e ∙ key-core c (pair-low A c M.coded) ∙ vector-core A (layered r T.shaped.passing) parts T.shaped.masks c M in
          let is : y / 256 / 256 ≡ v = ap (λ (x : ℕ). x / 256) core ∙ core-vector A v in
          (rw (is, T.shaped.components_are) (vector-cored A (layered r T.shaped.passing) parts T.shaped.masks c M), core ∙ ap (core_of A) (sym is))

  module _ {keys heads last : List ℕ} {n : ℕ} (C : Chained keys heads last n) (R : AllReached r parts shape keys n) where
    few : n ≤ 65536
    few = omega (arith, C.fits, C.few)

    -- a transition into the core of a vector has a target of that core
    into-core : (v : ℕ) → Cored parts shape.components v → (y t : ℕ) → Into A shape.s keys n v y → t ≡ target_of y → key_at keys t / 256 ≡ core_of A v
    into-core v w y t f e =
        let l = f.1 in let k = T.table.few_letters in let q = T.shaped.letters_are in
        let h : t ≡ f.2.2.0 = e ∙ ap target_of f.2.2.3 ∙ target_is f.2.0 f.0 f.2.2.0 (omega arith) (omega (arith, f.2.2.1, few)) in
        let o = onto-low A (layered r T.shaped.passing) parts T.shaped.masks v (rw T.shaped.components_are at w) f.0 (key_at keys f.2.0 % 256)
        (let p = key-paired T.shaped (R f.2.0 f.2.1) in omega (arith, T.shaped.components_are)) in
        rw h (omega (arith, f.2.2.2.to))

    -- the core of place j comes for the first time: no transition into it is done
    pub fresh : (j : ℕ) → j < n → (Before keys j → ⊥) → (y : ℕ) → Done A shape.s keys n j y → Into A shape.s keys n (vector_at keys j) y → ⊥
    fresh j l o y d f =
        let K = key-cored (key_at keys j) (R j l) in
        let Q = key-cored (key_at keys d.0) (R d.0 (omega (arith, d.1))) in
        let e : core_of A (vector_at keys d.0) ≡ core_of A (vector_at keys j) =
        sym (into-core (vector_at keys d.0) Q.0 y (target_of y) d.2 refl) ∙ into-core (vector_at keys j) K.0 y (target_of y) f refl in
        o (d.0, d.1, Q.1 ∙ e ∙ sym K.1)
