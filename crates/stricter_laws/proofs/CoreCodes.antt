-- Bits 0 to 39 of a code are its core: codes that agree in them have the same set and ranks, and for macrostates the other way round too.
use mathlib.Core.Path.{◌≡◌, sym, ◌∙◌, ap, ap₂}
use mathlib.Core.Bool.{true, ◌&&◌, cond}
use Prim.Native.Nat.{ℕ, ◌+◌, ◌*◌, ◌/◌, ◌%◌, ◌^◌, ◌≤◌, ◌<◌}
use native.Mathlib.Omega.{arith}
use lib.Dec.{eqb, ltb}
use lib.Pow.{shr-shr, split}
use Rattle.sets.specs.Masks.{bit, mask}
use Rattle.sets.specs.Tests.{Set}
use Rattle.sets.proofs.Digits.{digit-above, pow16}
use Rattle.sets.proofs.Masks.{above}
use Rattle.theory.specs.Automaton.{Automaton}
use Rattle.theory.specs.Code.{set_in, rank_in, well_coded}
use Rattle.build_cores.specs.Parts.{vector_of}
use Rattle.build_step_back.proofs.Codes.{core-in}
use Rattle.spare_spec.specs.Spare.{SameCore}
use Rattle.spare_spec.specs.SpareComputed.{has_level, spares}
use Rattle.stricter_laws.proofs.Along.{same_set, same-ranks}
use Rattle.stricter_spec.specs.Tags.{core_in}

digit-core : (c q : ℕ) → q < 40 → c / 2 ^ q % 2 ≡ core_in c / 2 ^ q % 2
digit-core c q l = ap (λ (x : ℕ). x / 2 ^ q % 2) (sym (split c 40)) ∙ above (c / 1099511627776) (core_in c) 40 q l

split-ranks : (c : ℕ) → c / 2 ^ 8 ≡ c / 1099511627776 * 16 ^ 8 + core_in c / 2 ^ 8
split-ranks c = omega arith

rank-core : (c q : ℕ) → q < 8 → c / 2 ^ (8 + 4 * q) % 16 ≡ core_in c / 2 ^ 8 / 16 ^ q % 16
rank-core c q l =
    ap (λ (x : ℕ). x % 16)
    (sym (shr-shr c 8 (4 * q)) ∙ ap (λ (x : ℕ). c / 2 ^ 8 / x) (pow16 q) ∙ ap (λ (x : ℕ). x / 16 ^ q) (split-ranks c))
    ∙ digit-above 16 (omega arith) (c / 1099511627776) (core_in c / 2 ^ 8) 8 q l

module _ {A : Automaton} where
  -- codes with the same bits 0 to 39 have the same core
  pub core-same : A.n ≤ 8 → (c d : ℕ) → core_in c ≡ core_in d → SameCore A c d
  unfolding set_in rank_in bit
  core-same small c d e = record {
    sets = λ q l. ap (λ (x : ℕ). ltb q A.n && eqb x 1)
        (digit-core c q (omega arith) ∙ ap (λ (x : ℕ). x / 2 ^ q % 2) e ∙ sym (digit-core d q (omega arith)));
    ranks = λ q l. ap (λ (x : ℕ). cond (ltb q A.n) x 0)
        (rank-core c q (omega arith) ∙ ap (λ (x : ℕ). x / 2 ^ 8 / 16 ^ q % 16) e ∙ sym (rank-core d q (omega arith)));
  }

  -- and codes of macrostates with the same core have the same bits 0 to 39
  pub same-core : {c d : ℕ} → well_coded A c ≡ true → well_coded A d ≡ true → SameCore A c d → core_in c ≡ core_in d
  same-core {c = c} {d = d} w v s =
      core-in A c w
      ∙ ap₂ (λ (r : ℕ → ℕ) (S : Set). vector_of A r * 2 ^ 8 + mask 8 S) (same-ranks s) (same_set s)
      ∙ sym (core-in A d v)

  -- steps between the same cores spare the same components
  pub spares-core : (a : ℕ) {c d c' d' : ℕ} (K : ℕ) → SameCore A c c' → SameCore A d d' → spares A a c d K ≡ spares A a c' d' K
  unfolding spares has_level
  spares-core a K s t = rw (same_set s, same_set t, same-ranks t)
