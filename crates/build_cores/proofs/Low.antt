-- States by their ranks.
use mathlib.Core.Path.{◌≡◌, refl, ap, ap₂, sym, ◌∙◌}
use mathlib.Core.Logic.{by_cases}
use mathlib.Core.Bool.{Bool, ◌&&◌, ◌||◌, or-false}
use mathlib.Core.List.{List}
use Prim.Native.Nat.{ℕ, zero, suc, ◌+◌, ◌-◌, ◌*◌, ◌%◌, ◌^◌, ◌≤◌, ◌<◌}
use native.Mathlib.Omega.{arith}
use native.Mathlib.Decide.{dec_lt, ℕ_discrete}
use lib.Dec.{eqb, leb, ltb}
use lib.ListN.{length, get_or, set, length-set, replicate}
use lib.Seq.{get_or-set_same, get_or-set_other}
use lib.Bits.{bit_or}
use lib.Pow.{pow-lt}
use borrow.Author.Tests.{eq-eqb, ne_eqb, lt-ltb, le-ltb, le-leb, lt-leb}
use Rattle.sets.specs.Masks.{mask}
use Rattle.sets.proofs.Masks.{mask-ext, mask-none}
use Rattle.sets.proofs.Bits.{bit-shl-one, mask-unique, mask-or, shl_one}

-- the set of one state, as the code shifts it
mask_one : (q : ℕ) → q < 8 → 1 * 2 ^ q % 256 ≡ mask 8 (λ p. eqb q p)
mask_one q h = let p = pow-lt {i = q} {j = 8} h in shl_one 8 q h ∙ mask-unique 8 (2 ^ q) (λ p. eqb q p) (omega arith) (λ p l. bit-shl-one q p)

pub zero-at : (m j : ℕ) → get_or {A = ℕ} (replicate m 0) j 0 ≡ 0
zero-at zero j = refl
zero-at (suc m) zero = refl
zero-at (suc m) (suc j) = zero-at m j

-- ---- each state at its rank

pub record Placed (n : ℕ → ℕ) (at : List ℕ) (q : ℕ) : Type 0 where
  pub end : q ≤ 8
  pub long : length at ≡ 16
  pub is : (j : ℕ) → j < 16 → get_or at j 0 ≡ mask 8 (λ p. ltb p q && eqb (n p) j)

pub put-start : (n : ℕ → ℕ) → Placed n (replicate 16 0) 0
put-start n = record {
  end = omega arith;
  long = refl;
  is = λ j k. zero-at 16 j ∙ sym (mask-none 8 (λ p. ltb p 0 && eqb (n p) j) (λ p l. ap (λ (b : Bool). b && eqb (n p) j) (le-ltb p 0 (omega arith))));
}

module _ (n : ℕ → ℕ) (q j : ℕ) where
  -- state q comes in
  enter : (p : ℕ) → n q ≡ j → (ltb p q && eqb (n p) j) || eqb q p ≡ ltb p (q + 1) && eqb (n p) j
  enter p e = by_cases (ℕ_discrete p q)
      (λ u. rw (u, le-ltb q q (omega arith), eq-eqb q q refl, lt-ltb q (q + 1) (omega arith), eq-eqb (n q) j e))
      (λ u. rw (ne_eqb q p (λ x. u (sym x))) (or-false (ltb p q && eqb (n p) j) ∙ ap (λ (b : Bool). b && eqb (n p) j) (shift p u)))
    where
      shift : (p : ℕ) → (p ≡ q → ⊥) → ltb p q ≡ ltb p (q + 1)
      shift p u = by_cases (dec_lt p q) (λ a. lt-ltb p q a ∙ sym (lt-ltb p (q + 1) (omega arith))) (λ a. le-ltb p q (omega arith) ∙ sym (le-ltb p (q + 1) (omega arith)))

  -- at another place
  pass : (p : ℕ) → (n q ≡ j → ⊥) → ltb p q && eqb (n p) j ≡ ltb p (q + 1) && eqb (n p) j
  pass p e = by_cases (ℕ_discrete p q)
      (λ u. rw (u, le-ltb q q (omega arith), ne_eqb (n q) j e, lt-ltb q (q + 1) (omega arith)))
      (λ u. by_cases (dec_lt p q)
      (λ a. rw (lt-ltb p q a, lt-ltb p (q + 1) (omega arith)))
      (λ a. rw (le-ltb p q (omega arith), le-ltb p (q + 1) (omega arith))))

module _ (n : ℕ → ℕ) (at : List ℕ) (q : ℕ) (h : q < 8) (low : n q < 16) (w : Placed n at q) where
  pub put : Placed n (set at (n q) (bit_or (get_or at (n q) 0) (1 * 2 ^ q % 256))) (q + 1)
  put = record {
    end = omega arith;
    long = simp length-set w.long;
    is = λ j k. by_cases (ℕ_discrete j (n q))
        (λ e. rw e (get_or-set_same at (n q) (bit_or (get_or at (n q) 0) (1 * 2 ^ q % 256)) 0 (let z = w.long in omega arith)
        ∙ ap₂ bit_or (w.is (n q) low) (mask_one q h)
        ∙ mask-or 8 (λ p. ltb p q && eqb (n p) (n q)) (λ p. eqb q p)
        ∙ mask-ext 8 _ _ (λ p l. enter n q (n q) p refl)))
        (λ e. get_or-set_other at (n q) j (bit_or (get_or at (n q) 0) (1 * 2 ^ q % 256)) 0 e ∙ w.is j k ∙ mask-ext 8 _ _ (λ p l. pass n q j p (λ x. e (sym x))));
  }

-- ---- gathered from below

pub record Gathered (at low : List ℕ) (i : ℕ) : Type 0 where
  pub end : i ≤ 16
  pub long : length low ≡ 16
  pub is : (n : ℕ → ℕ) → ((j : ℕ) → j < 16 → get_or at j 0 ≡ mask 8 (λ p. eqb (n p) j)) → (j : ℕ) → j < i → get_or low j 0 ≡ mask 8 (λ p. ltb 0 (n p) && leb (n p) j)

pub gather-start : (at : List ℕ) → Gathered at (replicate 16 0) 1
gather-start at = record {
  end = omega arith;
  long = refl;
  is = λ n f j k. zero-at 16 j ∙ sym (mask-none 8 (λ p. ltb 0 (n p) && leb (n p) j)
      (λ p l. let e : j ≡ 0 = omega arith in rw e (by_cases (ℕ_discrete (n p) 0) (λ z. rw (z, le-ltb 0 0 (omega arith))) (λ z. rw (lt-ltb 0 (n p) (omega arith), lt-leb (n p) 0 (omega arith))))));
}

module _ (at low : List ℕ) (i : ℕ) (hi : 0 < i) (h : i < 16) (w : Gathered at low i) where
  pub gather : Gathered at (set low i (bit_or (get_or low (i - 1) 0) (get_or at i 0))) (i + 1)
  gather = record {
    end = omega arith;
    long = simp length-set w.long;
    is = λ n f j k. by_cases (ℕ_discrete j i)
        (λ e. rw e (get_or-set_same low i (bit_or (get_or low (i - 1) 0) (get_or at i 0)) 0 (let z = w.long in omega arith)
        ∙ ap₂ bit_or (w.is n f (i - 1) (omega arith)) (f i h)
        ∙ mask-or 8 (λ p. ltb 0 (n p) && leb (n p) (i - 1)) (λ p. eqb (n p) i)
        ∙ mask-ext 8 _ _ (λ p l. join (n p))))
        (λ e. get_or-set_other low i j (bit_or (get_or low (i - 1) 0) (get_or at i 0)) 0 e ∙ w.is n f j (omega arith));
  }
    where
      join : (x : ℕ) → (ltb 0 x && leb x (i - 1)) || eqb x i ≡ ltb 0 x && leb x i
      join x = by_cases (ℕ_discrete x 0)
          (λ z. rw (z, le-ltb 0 0 (omega arith), ne_eqb 0 i (omega arith)))
          (λ z. rw (lt-ltb 0 x (omega arith)) (by_cases (dec_lt x i)
          (λ a. rw (le-leb x (i - 1) (omega arith), le-leb x i (omega arith)))
          (λ a. rw (lt-leb x (i - 1) (omega arith)) (by_cases (ℕ_discrete x i)
          (λ b. rw (eq-eqb x i b, le-leb x i (omega arith)))
          (λ b. rw (ne_eqb x i b, lt-leb x i (omega arith)))))))
