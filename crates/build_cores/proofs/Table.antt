-- The table, place by place.
use mathlib.Core.Path.{◌≡◌, refl, ap, ◌∙◌}
use mathlib.Core.Bool.{true}
use Prim.Native.Nat.{ℕ, ◌+◌, ◌*◌, ◌%◌, ◌^◌, ◌<◌}
use native.Mathlib.Omega.{arith}
use native.Mathlib.Numerals.{add-one}
use lib.Bits.{bit_xor, xor_lt}
use lib.Pow.{pow_mono}
use Rattle.sets.specs.Tests.{Set, one}
use Rattle.sets.specs.Masks.{bit, mask, exclusive}
use Rattle.sets.proofs.Masks.{mask_lt, bit_mask}
use Rattle.sets.proofs.Bits.{bit-xor, mask-unique, shl_one}
use Rattle.sets.proofs.Bools.{xor_comm}
use Rattle.theory.specs.Rule.{Rule, entry, satisfies}
use Rattle.theory.specs.Passing.{WellFormed}
use Rattle.theory.specs.Automaton.{automaton}
use Rattle.theory.specs.Core.{is_open}
use Rattle.theory_laws.proofs.Satisfies.{satisfies-ext}
use Rattle.build_cores.specs.Opens.{set_from, open_before_lem}

-- ---- one state more

pub mask_start : (f : Set) → 0 ≡ mask 0 f
unfolding mask
mask_start f = refl

pub mask-more : (q : ℕ) (f : Set) → mask q f + one (f q) * 2 ^ q ≡ mask (q + 1) f
unfolding mask
mask-more q f = rw (add-one q) (omega arith)

pub mask_fits : (q : ℕ) (f : Set) → q < 8 → mask (q + 1) f < 256
mask_fits q f l = let h = mask_lt (q + 1) f in let p = pow_mono {i = q + 1} {j = 8} (omega arith) in omega arith

-- the code's shifted one
pub shifted : (q : ℕ) → q < 8 → 1 * 2 ^ q % 256 ≡ one true * 2 ^ q
shifted q l = shl_one 8 q l ∙ omega arith

-- ---- one place of the table

-- the states whose entry is satisfied
abbrev pub met_by_lem : Rule → ℕ → ℕ → Set
met_by_lem r a opened q = satisfies r.n (bit (bit_xor opened r.accepting)) (entry r q a)

module _ (r : Rule) (W : WellFormed r) (a opened : ℕ) where
  abbrev met : Set
  met = met_by_lem r a opened

  set_same : (q : ℕ) → satisfies r.n (bit (bit_xor opened r.accepting)) (entry r q a) ≡ satisfies r.n (set_from (automaton r) opened) (entry r q a)
  unfolding set_from automaton
  set_same q = satisfies-ext r.n (bit (bit_xor opened r.accepting)) (λ p. exclusive (bit r.accepting p) (bit opened p))
      (λ p l. bit-xor opened r.accepting p ∙ xor_comm (bit opened p) (bit r.accepting p)) (entry r q a)

  pub place_is : bit_xor (mask r.n met) r.accepting ≡ open_before_lem (automaton r) a opened
  unfolding open_before_lem automaton is_open
  place_is =
      mask-unique r.n (bit_xor (mask r.n met) r.accepting) (is_open (automaton r) (λ q. satisfies r.n (set_from (automaton r) opened) (entry r q a)))
      (xor_lt r.n (mask r.n met) r.accepting (mask_lt r.n met) W.accepting_states)
      (λ q l. bit-xor (mask r.n met) r.accepting q ∙ xor_comm (bit (mask r.n met) q) (bit r.accepting q) ∙ ap (exclusive (bit r.accepting q)) (bit_mask r.n met q l ∙ set_same q))
