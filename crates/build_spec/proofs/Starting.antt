-- The core of a vector in the code's terms, and the start condition there.
use mathlib.Core.Path.{◌≡◌, ap, ap₂, sym, ◌∙◌}
use mathlib.Core.Logic.{by_cases}
use mathlib.Core.Bool.{Bool, true, false, ◌&&◌, not, cond, and-true}
use mathlib.Core.List.{List}
use Prim.Native.Nat.{ℕ, ◌+◌, ◌*◌, ◌/◌, ◌%◌, ◌^◌, ◌≤◌, ◌<◌}
use native.Mathlib.Omega.{arith}
use native.Mathlib.Decide.{dec_lt}
use lib.Dec.{eqb, leb, ltb}
use lib.ListN.{get_or}
use lib.Bits.{bit_and, bit_xor, and_mask, xor_lt}
use lib.Pow.{pow_mono}
use borrow.Author.Tests.{lt-ltb, le-ltb, le-leb}
use Rattle.sets.specs.Masks.{bit, mask, exclusive}
use Rattle.sets.proofs.Masks.{mask_lt, mask-ext, bit_mask, above}
use Rattle.sets.proofs.Bits.{bit-xor, bit_high, mask-unique}
use Rattle.sets.proofs.Bools.{xor_comm}
use Rattle.theory.specs.Rule.{Rule}
use Rattle.theory.specs.Automaton.{Automaton, automaton}
use Rattle.build_cores.specs.Vectors.{rank_at, Within}
use Rattle.build_cores.specs.Used.{caps_of}
use Rattle.build_cores.specs.Parts.{set_of}
use Rattle.build_cores.proofs.Vectors.{within-lt}
use Rattle.build_cores.proofs.Gaps.{rank-low}
use Rattle.build_cores.proofs.Cores.{set-rank, set_beyond, rank-beyond, caps-fit}
use Rattle.build_step_back.specs.Earlier.{core_of}
use Rattle.build_spec.specs.declared.Shape.{Shape}
use Rattle.build_spec.specs.Keys.{start_of}
use Rattle.build_spec.specs.Sets.{open_in}
use Rattle.build_spec.specs.Tables.{Shaped, Lowest}

-- what in_set finds
pub in-set-ranked : (ranks accepting q : ℕ) → 0 < bit_and (ranks / 2 ^ (4 * q)) 15 → not (bit accepting q) ≡ exclusive (bit accepting q) (ltb 0 (rank_at ranks q))
unfolding rank_at
in-set-ranked ranks accepting q h = xor_comm true (bit accepting q) ∙ ap (exclusive (bit accepting q)) (sym (lt-ltb 0 (ranks / 2 ^ (4 * q) % 16) (omega (arith, and_mask (ranks / 2 ^ (4 * q)) 4))))

pub in-set-closed : (ranks accepting q : ℕ) → bit_and (ranks / 2 ^ (4 * q)) 15 ≤ 0 → bit accepting q ≡ exclusive (bit accepting q) (ltb 0 (rank_at ranks q))
unfolding rank_at
in-set-closed ranks accepting q h = xor_comm false (bit accepting q) ∙ ap (exclusive (bit accepting q)) (sym (le-ltb 0 (ranks / 2 ^ (4 * q) % 16) (omega (arith, and_mask (ranks / 2 ^ (4 * q)) 4))))

-- the states with a rank of at most 15 are those with a rank
pub open-lowest : (v : ℕ) (low : List ℕ) → Lowest v low → get_or low 15 0 ≡ open_in v
open-lowest v low L = L 15 (omega arith) ∙ mask-ext 8 (λ p. ltb 0 (rank_at v p) && leb (rank_at v p) 15) (λ p. ltb 0 (rank_at v p))
    (λ q k. ap (λ (b : Bool). ltb 0 (rank_at v q) && b) (le-leb (rank_at v q) 15 (let h = rank-low v q in omega arith)) ∙ and-true (ltb 0 (rank_at v q)))

-- the number of a core has 40 bits
pub core-low : (A : Automaton) (v : ℕ) → v < 2 ^ 32 → core_of A v < 2 ^ 40
unfolding core_of
core-low A v h = omega (arith, mask_lt 8 (set_of A v))

module _ {r : Rule} {parts : List ℕ} {shape : Shape} (S : Shaped r parts shape) where
  pub few : shape.components ≤ 8
  few = omega (arith, S.components_are, S.masks.few_components)

  pub initial-low : shape.initial < 8
  initial-low = omega (arith, S.initial_is, S.passing.formed.initial_state, S.passing.formed.few_states)

  pub initial_state : shape.initial < (automaton r).n
  unfolding automaton
  initial_state = omega (arith, S.initial_is, S.passing.formed.initial_state)

  -- the mask of the accepting states
  pub accepting-fits : shape.accepting < 2 ^ (automaton r).n
  unfolding automaton
  accepting-fits = rw S.accepting_are S.passing.formed.accepting_states

  pub accepting-same : (q : ℕ) → bit shape.accepting q ≡ (automaton r).accepting q
  unfolding automaton
  accepting-same q = ap (λ (m : ℕ). bit m q) S.accepting_are

  pub caps-low : caps_of parts shape.components < 2 ^ 32
  caps-low = rw S.components_are (caps-fit (automaton r) parts S.masks)

  module _ (v : ℕ) (w : Within 8 v (caps_of parts shape.components)) where
    pub within_all : Within 8 v (caps_of parts (automaton r).components)
    within_all = rw S.components_are at w

    pub vector-low : v < 2 ^ 32
    vector-low = within-lt 8 v (caps_of parts shape.components) w

    -- the number of its core
    module _ (low : List ℕ) (L : Lowest v low) where
      opened : (q : ℕ) → q < 8 → bit (get_or low 15 0) q ≡ ltb 0 (rank_at v q)
      opened q k = ap (λ (x : ℕ). bit x q) (open-lowest v low L) ∙ bit_mask 8 (λ p. ltb 0 (rank_at v p)) q k

      opened-low : get_or low 15 0 < 256
      opened-low = rw (open-lowest v low L) (mask_lt 8 (λ p. ltb 0 (rank_at v p)))

      accepting-low : shape.accepting < 256
      accepting-low = let p = pow_mono {i = (automaton r).n} {j = 8} S.masks.few_states in omega (arith, accepting-fits)

      set_is : bit_xor (get_or low 15 0) shape.accepting ≡ mask 8 (set_of (automaton r) v)
      set_is = mask-unique 8 (bit_xor (get_or low 15 0) shape.accepting) (set_of (automaton r) v) (xor_lt 8 (get_or low 15 0) shape.accepting opened-low accepting-low)
          (λ q k. bit-xor (get_or low 15 0) shape.accepting q ∙ ap (λ (b : Bool). exclusive b (bit shape.accepting q)) (opened q k) ∙ by_cases (dec_lt q (automaton r).n)
          (λ l. xor_comm (ltb 0 (rank_at v q)) (bit shape.accepting q) ∙ ap (λ (b : Bool). exclusive b (ltb 0 (rank_at v q))) (accepting-same q) ∙ sym (set-rank (automaton r) v q l))
          (λ l. ap₂ exclusive (ap (ltb 0) (rank-beyond (automaton r) parts S.masks v within_all q (omega arith) k)) (bit_high (automaton r).n shape.accepting q accepting-fits (omega arith))
          ∙ sym (set_beyond (automaton r) v q (omega arith))))

      pub core_is : v * 2 ^ 8 + bit_xor (get_or low 15 0) shape.accepting ≡ core_of (automaton r) v
      unfolding core_of
      core_is = ap (λ (x : ℕ). v * 2 ^ 8 + x) set_is

      core-fits : v * 2 ^ 8 + bit_xor (get_or low 15 0) shape.accepting < 2 ^ 40
      core-fits = rw core_is (core-low (automaton r) v vector-low)

    -- the start condition, by the rank of the initial state
    holds-is : exclusive (bit shape.accepting shape.initial) (ltb 0 (rank_at v shape.initial)) ≡ bit (core_of (automaton r) v) r.initial
    unfolding core_of bit
    holds-is = ap (λ (b : Bool). exclusive b (ltb 0 (rank_at v shape.initial))) (accepting-same shape.initial)
        ∙ sym (set-rank (automaton r) v shape.initial initial_state)
        ∙ sym (bit_mask 8 (set_of (automaton r) v) shape.initial initial-low)
        ∙ ap (λ (x : ℕ). eqb x 1) (sym (above v (mask 8 (set_of (automaton r) v)) 8 shape.initial initial-low))
        ∙ ap (λ (q : ℕ). eqb ((v * 2 ^ 8 + mask 8 (set_of (automaton r) v)) / 2 ^ q % 2) 1) S.initial_is

    pub start_is : cond shape.holds (exclusive (bit shape.accepting shape.initial) (ltb 0 (rank_at v shape.initial)))
        (not (exclusive (bit shape.accepting shape.initial) (ltb 0 (rank_at v shape.initial))))
        ≡ start_of r shape.holds (core_of (automaton r) v)
    unfolding start_of
    start_is = ap (λ (b : Bool). cond shape.holds b (not b)) holds-is

    -- the key with K 0 and k 0, by a shift
    module _ (low : List ℕ) (L : Lowest v low) {core : ℕ} (e : core ≡ v * 2 ^ 8 + bit_xor (get_or low 15 0) shape.accepting) where
      pub first-is : core * 2 ^ 8 % 2 ^ 64 ≡ core_of (automaton r) v * 256
      first-is = let f = core-fits low L in let q = e ∙ core_is low L in omega arith

      pub first-low : core * 2 ^ 8 % 2 ^ 64 < 2 ^ 48
      first-low = let f = core-fits low L in omega arith
