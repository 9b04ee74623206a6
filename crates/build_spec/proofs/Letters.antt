-- The step back over a letter, in the code's terms and in the theory's.
use mathlib.Core.Path.{◌≡◌, ap, ap₂, sym, ◌∙◌}
use mathlib.Core.List.{List}
use Prim.Native.Nat.{ℕ, ◌+◌, ◌*◌, ◌/◌, ◌%◌, ◌^◌, ◌≤◌, ◌<◌}
use native.Mathlib.Omega.{arith}
use lib.ListN.{get_or}
use lib.Bits.{bit_xor}
use Rattle.sets.proofs.Masks.{mask_lt}
use Rattle.theory.specs.Rule.{Rule}
use Rattle.theory.specs.Automaton.{Automaton, automaton}
use Rattle.theory_laws.proofs.Layers.{layered}
use Rattle.build_cores.specs.Vectors.{Within}
use Rattle.build_cores.specs.Used.{caps_of}
use Rattle.build_cores.specs.Parts.{vector_of}
use Rattle.build_step_back.specs.Step.{Rising, Back}
use Rattle.build_cores.specs.Onward.{onward_in}
use Rattle.build_step_back.specs.Earlier.{core_of, back_of, onto_of_lem, earlier_set, earlier_rank}
use Rattle.build_step_back.proofs.Tables.{rises-at, set_is, ranks-is, back_is, onward-is}
use Rattle.build_step_back.proofs.Codes.{back_low}
use Rattle.build_spec.specs.declared.Shape.{Shape}
use Rattle.build_spec.specs.Chains.{key_at, Chained}
use Rattle.build_spec.specs.Growth.{After}
use Rattle.build_spec.proofs.Growth.{Upto}
use Rattle.build_spec.specs.Keys.{Cored, Moved, LeadsOver, LeadsAt, KeyEdge, Stepping}
use Rattle.build_spec.specs.Tables.{Shaped, RuleTables, Lowest}
use Rattle.build_spec.specs.Reached.{leads, ReachedKey}
use Rattle.build_spec.proofs.Starting.{core-low, vector-low, within_all, accepting-fits, accepting-same, core_is}

-- the number of an earlier core has 40 bits, so its vector has 32
ranks-low : (A : Automaton) → A.n ≤ 8 → (a v : ℕ) → vector_of A (earlier_rank A a v) < 2 ^ 32
unfolding back_of
ranks-low A few a v = omega (arith, back_low A few a v)

-- what a step moves is what leads over the letter
module _ {A : Automaton} {parts : List ℕ} {C v a earlier core : ℕ} {levels : List ℕ} (S : Stepping A parts C v a earlier core levels) where
  to_is : (x : ℕ) → x % 16 < C → core * 256 + onward_in v parts C levels (x % 256) ≡ core_of A v * 256 + onto_of_lem A a v (x % 256)
  to_is x l = ap₂ (λ (x z : ℕ). x * 256 + z) S.core_is (S.onto_is (x % 256) (omega arith) (omega arith))

  pub leads-in : {x y : ℕ} → x % 16 < C → Moved earlier core (onward_in v parts C levels) x y → LeadsOver A v a x y
  leads-in l m = record { from = m.from ∙ S.earlier_is; to = m.to ∙ to_is _ l }

  pub leads-out : {x y : ℕ} → x % 16 < C → LeadsOver A v a x y → Moved earlier core (onward_in v parts C levels) x y
  leads-out l m = record { from = m.from ∙ sym S.earlier_is; to = m.to ∙ sym (to_is _ l) }

module _ (A : Automaton) (parts : List ℕ) (C s from n : ℕ) (xs : List ℕ) where
  -- what visit adds, letter by letter
  pub letters-out : (v y : ℕ) → LeadsAt A parts C s from n xs v y → Upto (λ b. After from n xs (LeadsOver A v b)) s y
  letters-out v y h = (h.1.3.0, h.1.3.1, (h.1.0, h.1.1, h.1.2, h.1.3.2))

  -- what a round adds, vector by vector
  pub edges-out : (y : ℕ) → After from n xs (KeyEdge A parts C s) y → (v : ℕ) × LeadsAt A parts C s from n xs v y
  edges-out y h = (h.3.0, (h.3.1, (h.0, h.1, h.2, h.3.2)))

module _ {r : Rule} {opens parts : List ℕ} {shape : Shape} (T : RuleTables r opens parts shape) (a : ℕ) {v : ℕ} (known : a < shape.s) (w : Cored parts shape.components v) (low : List ℕ)
    (L : Lowest v low) where
  within : Within 8 v (caps_of parts (automaton r).components)
  within = within_all T.shaped v w.within

  letter : a < r.s
  letter = omega (arith, T.shaped.letters_are)

  -- what step_back asks
  pub rises : (c : ℕ) → c < shape.components → Rising opens a (get_or low 15 0) (get_or parts c 0) low
  rises c l = rises-at (automaton r) (layered r T.shaped.passing) r.s opens parts T.shaped.masks T.table a v letter within low L c (omega (arith, T.shaped.components_are))

  module _ {ranks : ℕ} {levels : List ℕ} (B : Back opens a (get_or low 15 0) parts shape.components low ranks levels) where
    back : Back opens a (get_or low 15 0) parts (automaton r).components low ranks levels
    back = rw T.shaped.components_are at B

    ranks-are : ranks ≡ vector_of (automaton r) (earlier_rank (automaton r) a v)
    ranks-are = ranks-is (automaton r) (layered r T.shaped.passing) r.s opens parts T.shaped.masks T.table a v letter within low L ranks levels back

    pub ranks-fit : ranks < 2 ^ 32
    ranks-fit = rw ranks-are (ranks-low (automaton r) T.shaped.masks.few_states a v)

    earlier_is : ranks * 2 ^ 8 + bit_xor (get_or opens (a * 256 + get_or low 15 0) 0) shape.accepting ≡ back_of (automaton r) a v
    earlier_is = back_is (automaton r) (layered r T.shaped.passing) r.s opens parts T.shaped.masks T.table a v letter within low L ranks levels back
        shape.accepting (accepting-fits T.shaped) (λ q l. accepting-same T.shaped q)

    onto_is : (pair : ℕ) → pair < 256 → pair % 16 < shape.components → onward_in v parts shape.components levels pair ≡ onto_of_lem (automaton r) a v pair
    onto_is pair h l = ap (λ (c : ℕ). onward_in v parts c levels pair) T.shaped.components_are
        ∙ onward-is (automaton r) (layered r T.shaped.passing) r.s opens parts T.shaped.masks T.table a v letter within low L ranks levels back
        (rw T.shaped.components_are at w.passes) pair h (omega (arith, T.shaped.components_are))

    pub stepping : {core earlier : ℕ} → core ≡ v * 2 ^ 8 + bit_xor (get_or low 15 0) shape.accepting →
        earlier ≡ ranks * 2 ^ 8 + bit_xor (get_or opens (a * 256 + get_or low 15 0) 0) shape.accepting → Stepping (automaton r) parts shape.components v a earlier core levels
    stepping ec ee = record { earlier_is = ee ∙ earlier_is; core_is = ec ∙ core_is T.shaped v w.within low L; onto_is = onto_is }

  -- ---- the clock

  earlier-set : back_of (automaton r) a v % 256 ≡ bit_xor (get_or opens (a * 256 + get_or low 15 0) 0) shape.accepting
  unfolding back_of
  earlier-set =
      let e = set_is (automaton r) (layered r T.shaped.passing) r.s opens parts T.shaped.masks T.table a v letter within low L shape.accepting
      (accepting-fits T.shaped) (λ q l. accepting-same T.shaped q) in
      omega (arith, mask_lt 8 (earlier_set (automaton r) a v))

  -- where no key of the earlier set stands from place `from` on, nothing leads over the letter
  pub nothing-new : {xs heads last : List ℕ} {n : ℕ} (from : ℕ) → Chained xs heads last n → get_or last (bit_xor (get_or opens (a * 256 + get_or low 15 0) 0) shape.accepting) 0 ≤ from → (y : ℕ) →
      After from n xs (LeadsOver (automaton r) v a) y → ⊥
  nothing-new {xs} {last = last} from C h y m =
      let e : key_at xs m.0 / 256 % 256 ≡ bit_xor (get_or opens (a * 256 + get_or low 15 0) 0) shape.accepting = ap (λ (x : ℕ). x % 256) m.3.from ∙ earlier-set in
      let c : m.0 < get_or last (bit_xor (get_or opens (a * 256 + get_or low 15 0) 0) shape.accepting) 0 = rw e at (C.clock m.0 m.2) in
      omega (arith, m.1)

-- the cores of a step have numbers of 40 bits
pub stepping-fits : {r : Rule} {parts : List ℕ} {shape : Shape} → Shaped r parts shape → {v : ℕ} → Cored parts shape.components v → {C a earlier core : ℕ} {levels : List ℕ} →
    Stepping (automaton r) parts C v a earlier core levels → (core < 2 ^ 40) × (earlier < 2 ^ 40)
stepping-fits {r} S {v} w {a = a} G =
    (rw G.core_is (core-low (automaton r) v (vector-low S v w.within)), rw G.earlier_is (back_low (automaton r) S.masks.few_states a v))

-- what is led to is reached
pub led : {r : Rule} {parts : List ℕ} (shape : Shape) {v a x y : ℕ} → a < shape.s → Cored parts shape.components v → ReachedKey r parts shape x → LeadsOver (automaton r) v a x y →
    ReachedKey r parts shape y
led shape {v} {a} known w R m = leads R (v, w, (a, known, m))
