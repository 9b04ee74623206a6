-- The pair that a step comes from, found in the two tables by the byte that it left.
use mathlib.Core.Path.{◌≡◌, sym, ap, ap₂, ◌∙◌}
use mathlib.Core.Logic.{⊎_elim}
use mathlib.Core.Bool.{Bool, true, false}
use mathlib.Core.List.{List, Memᴰ}
use Prim.Native.Nat.{ℕ, ◌+◌, ◌*◌, ◌/◌, ◌%◌, ◌<◌}
use native.Mathlib.Omega.{arith}
use lib.Arith.{digits_div, digits_mod}
use lib.Dec.{eqb}
use lib.ListN.{length, get_or}
use Rattle.sets.specs.Tests.{one}
use Rattle.theory.specs.Macrostate.{is_accepting_lem}
use Rattle.theory.specs.Run.{source_of, letter_of_lem, target_of}
use Rattle.stricter_laws.specs.Pairs.{PairStep, Paired}
use Rattle.stricter_laws.specs.Tests.{accepts_in}
use Rattle.stricter_laws.proofs.Sides.{accepts-first, accepts-second}
use Rattle.stricter_laws.specs.Forest.{kind_in, Back, Trail}
use Rattle.stricter_laws.proofs.Pairs.{one-low, step-lettered}

-- the two bits of a byte
bits : (v a : ℕ) (p q : Bool) → v ≡ 64 + 4 * a + (2 * one p + one q) → (eqb (v / 2 % 2) 1 ≡ p) × (eqb (v % 2) 1 ≡ q)
bits v a true true e = let f : v / 2 % 2 ≡ 1 = omega arith in let g : v % 2 ≡ 1 = omega arith in (rw f, rw g)
bits v a true false e = let f : v / 2 % 2 ≡ 1 = omega arith in let g : v % 2 ≡ 0 = omega arith in (rw f, rw g)
bits v a false true e = let f : v / 2 % 2 ≡ 0 = omega arith in let g : v % 2 ≡ 1 = omega arith in (rw f, rw g)
bits v a false false e = let f : v / 2 % 2 ≡ 0 = omega arith in let g : v % 2 ≡ 0 = omega arith in (rw f, rw g)

letter-in : (v a : ℕ) (p q : Bool) → a < 16 → v ≡ 64 + 4 * a + (2 * one p + one q) → v / 4 % 16 ≡ a
letter-in v a p q l e = omega (arith, one-low p, one-low q)

-- what is asked of where transitions come from
abbrev pub From : List ℕ → List ℕ → ℕ → ℕ → Bool → ℕ → Type 0
From codes moves letter target accepting r =
    (t : ℕ) → Memᴰ t moves → letter_of_lem t ≡ letter → target_of t ≡ target → is_accepting_lem (get_or codes (source_of t) 0) ≡ accepting → r ≡ source_of t

module _ (ca : List ℕ) {ma : List ℕ} (cb : List ℕ) {mb : List ℕ} {size : ℕ} (p : Paired (length cb) ma mb size) (y v i j : ℕ) where
  pub parent-far : From ca ma (v / 4 % 16) (y / length cb) (eqb (v / 2 % 2) 1) i → From cb mb (v / 4 % 16) (y % length cb) (eqb (v % 2) 1) j
      → (x a : ℕ) → PairStep (length cb) ma mb x a y → v ≡ 64 + 4 * a + kind_in ca cb x → i * length cb + j ≡ x
  unfolding kind_in
  parent-far f g x a s e =
      let t = s.of_a in let u = s.of_b in
      let low = p.sources u s.listed_b in
      let under = p.targets u s.listed_b in
      let small = step-lettered p x a y s in
      let letter = letter-in v a (accepts_in ca cb false x) (accepts_in ca cb true x) small e in
      let b = bits v a (accepts_in ca cb false x) (accepts_in ca cb true x) e in
      let first : i ≡ source_of t = f t s.listed_a (s.letter_a ∙ sym letter)
      (sym (ap (λ (n : ℕ). n / length cb) s.target ∙ digits_div (target_of t) under))
      (sym (accepts-first ca cb (source_of t) (source_of u) low) ∙ ap (accepts_in ca cb false) (sym s.source) ∙ sym b.0) in
      let second : j ≡ source_of u = g u s.listed_b (s.letter_b ∙ sym letter)
      (sym (ap (λ (n : ℕ). n % length cb) s.target ∙ digits_mod (target_of t) under))
      (sym (accepts-second ca cb (source_of t) (source_of u) low) ∙ ap (accepts_in ca cb true) (sym s.source) ∙ sym b.1) in
      ap₂ (λ (m n : ℕ). m * length cb + n) first second ∙ sym s.source

pub trail-back : (S : ℕ → ℕ → ℕ → Type 0) (kind : ℕ → ℕ) (o : ℕ) (ms : List ℕ) (x k : ℕ) → 0 < k → Trail S kind o ms x k → Back S kind o ms x k
trail-back S kind o ms x k l t = ⊎_elim (λ h. let e = h.0 in absurd (omega arith)) (λ h. h) t
