-- Components one after the other: those of one kind, and both kinds together.
use mathlib.Core.Path.{◌≡◌, refl, sym, ◌∙◌}
use mathlib.Core.Logic.{by_cases}
use mathlib.Core.Bool.{Bool, beq, true, false, not, cond}
use mathlib.Core.List.{List}
use Prim.Native.Nat.{ℕ, zero, suc, ◌+◌, ◌<◌}
use native.Mathlib.Omega.{arith}
use native.Mathlib.Decide.{dec_lt, ℕ_discrete}
use native.Mathlib.Numerals.{add-one}
use lib.Dec.{eqb, ltb}
use lib.Bits.{bit_and}
use lib.ListN.{length, get_or, set, length-set}
use lib.Seq.{get_or-set_same, get_or-set_other}
use borrow.Author.Tests.{lt-ltb, le-ltb}
use Rattle.sets.specs.Tests.{Set}
use Rattle.sets.proofs.Bools.{bif}
use Rattle.build_cores.specs.Used.{sum_of}
use Rattle.build_step_back.specs.Step.{Stepped, rejecting_part, accepting_part, part_of, ranks_in, BackOf, Back}

-- another number is below c + 1 exactly if it is below c
below_other : (d c : ℕ) → (d ≡ c → ⊥) → ltb d (c + 1) ≡ ltb d c
below_other d c n = by_cases (dec_lt d c)
    (λ h. lt-ltb d (c + 1) (omega arith) ∙ sym (lt-ltb d c h))
    (λ h. le-ltb d (c + 1) (omega arith) ∙ sym (le-ltb d c (omega arith)))

-- what is summed over one kind and over the other is summed over both
sum_both : (kind : Set) (f : ℕ → ℕ) (n : ℕ) → sum_of n (λ c. cond (kind c) (f c) 0) + sum_of n (λ c. cond (not (kind c)) (f c) 0) ≡ sum_of n f
unfolding sum_of
sum_both kind f zero = refl
sum_both kind f (suc n) = bif (kind n) (λ t. rw t (omega (arith, sum_both kind f n))) (λ t. rw t (omega (arith, sum_both kind f n)))

-- the test of a component's kind, as the code has it
beq-not : (b k : Bool) → cond k (not b) b ≡ beq (not b) k
beq-not true true = refl
beq-not true false = refl
beq-not false true = refl
beq-not false false = refl

pub part-kind : (parts : List ℕ) (accepting : ℕ) (k : Bool) (c : ℕ) → part_of parts accepting k c ≡ beq (not (eqb (bit_and (get_or parts c 0) accepting) 0)) k
unfolding rejecting_part accepting_part
part-kind parts accepting true c = beq-not (eqb (bit_and (get_or parts c 0) accepting) 0) true
part-kind parts accepting false c = beq-not (eqb (bit_and (get_or parts c 0) accepting) 0) false

module _ {kind : Set} {opens : List ℕ} {letter opened : ℕ} {parts low before : List ℕ} where
  pub start : BackOf kind opens letter opened parts 0 low before 0 before
  unfolding sum_of
  start = record { ranked = refl; levelled = λ c. rw (le-ltb c 0 (omega arith)); long = refl; bound = omega arith }

  module _ {levels : List ℕ} {ranks c : ℕ} (w : BackOf kind opens letter opened parts c low before ranks levels) where
    -- a component of the kind
    pub next : (r l : ℕ) → kind c ≡ true → c < length levels → r < 4294967296 → Stepped opens letter opened (get_or parts c 0) low r l
        → BackOf kind opens letter opened parts (c + 1) low before (ranks + r) (set levels c l)
    unfolding sum_of
    next r l k h b s = record {
      ranked = rw (add-one c, k) (omega (arith, w.ranked, s.ranked));
      levelled = λ d. by_cases (ℕ_discrete d c)
          (λ e. rw (e, lt-ltb c (c + 1) (omega arith), k) (get_or-set_same levels c l 0 h ∙ s.levelled))
          (λ e. rw (below_other d c e) (get_or-set_other levels c d l 0 e ∙ w.levelled d));
      long = length-set levels c l ∙ w.long;
      bound = omega (arith, w.bound);
    }

    -- a component of the other kind
    pub skip : kind c ≡ false → BackOf kind opens letter opened parts (c + 1) low before ranks levels
    unfolding sum_of
    skip k = record {
      ranked = rw (add-one c, k) (omega (arith, w.ranked));
      levelled = λ d. by_cases (ℕ_discrete d c)
          (λ e. rw (e, lt-ltb c (c + 1) (omega arith), k) (w.levelled c ∙ rw (le-ltb c c (omega arith))))
          (λ e. rw (below_other d c e) (w.levelled d));
      long = w.long;
      bound = omega (arith, w.bound);
    }

-- both kinds together
pub both : {kind : Set} {opens : List ℕ} {letter opened : ℕ} {parts : List ℕ} {components : ℕ} {low before : List ℕ} {ranks₁ : ℕ} {levels₁ : List ℕ} {ranks₂ : ℕ} {levels₂ : List ℕ}
    → BackOf kind opens letter opened parts components low before ranks₁ levels₁ → BackOf (λ c. not (kind c)) opens letter opened parts components low levels₁ ranks₂ levels₂
    → Back opens letter opened parts components low (ranks₁ + ranks₂) levels₂
both {kind} {opens} {letter} {opened} {parts} {components} {low} x y = record {
  ranked = omega (arith, x.ranked, y.ranked, sum_both kind (ranks_in opens letter opened parts low) components);
  levelled = λ c h. bif (kind c)
      (λ k. y.levelled c ∙ rw (lt-ltb c components h, k) (x.levelled c ∙ rw (lt-ltb c components h, k)))
      (λ k. y.levelled c ∙ rw (lt-ltb c components h, k));
}
