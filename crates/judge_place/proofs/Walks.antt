-- A walk over the states of a mask from the least on, which collects those that pass a test.
use mathlib.Core.Path.{◌≡◌, refl, sym, ◌∙◌, ap}
use mathlib.Core.Logic.{by_cases}
use mathlib.Core.Bool.{Bool, true, false, ◌&&◌, ◌||◌, or-false, or-true, and-true, and-false}
use mathlib.Core.List.{Memᴰ}
use Prim.Native.Nat.{ℕ, ◌+◌, ◌-◌, ◌*◌, ◌%◌, ◌^◌, ◌<◌}
use native.Mathlib.Omega.{arith}
use native.Mathlib.Decide.{ℕ_discrete}
use native.Mathlib.Numerals.{add-one}
use lib.Bits.{bit_and, bit_or}
use lib.Count.{count_trailing_zeros}
use borrow.Author.Tests.{eq-eqb, ne_eqb}
use Rattle.sets.specs.Tests.{Set}
use Rattle.sets.specs.Masks.{bit, mask, members}
use Rattle.sets.proofs.Bits.{bit-or, bit-none, bit-shl-one}
use Rattle.sets.proofs.Masks.{put-bit}
use Rattle.sets.proofs.Members.{members-cons, members-out, rest-bit}

-- the least member of a mask is one
pub least-member : (m : ℕ) → 0 < m → m < 256 → bit m (count_trailing_zeros 8 m) ≡ true
least-member m p l =
    let mem : Memᴰ (count_trailing_zeros 8 m) (members m) = rw (members-cons m p l) (mathlib.Core.List.Memᴰ.head refl) in
    (members-out m (count_trailing_zeros 8 m) mem).1

-- the states found and those left that pass the test
abbrev pub walked : Set → ℕ → ℕ → Set
walked f found left q = bit found q || (bit left q && f q)

-- of Booleans
found-now : (a x : Bool) → ((a || true) || x) ≡ (a || true)
found-now a x = rw (or-true a)

as_before : (a b c : Bool) → ((a || false) || ((b && true) && c)) ≡ (a || (b && c))
as_before a b c = rw (or-false a, and-true b)

none_here : (a b : Bool) → (a || ((b && false) && false)) ≡ (a || (b && false))
none_here a b = rw (and-false b)

kept-left : (a b c : Bool) → (a || ((b && true) && c)) ≡ (a || (b && c))
kept-left a b c = rw (and-true b)

module _ (f : Set) (found left : ℕ) (p : 0 < left) (l : left < 256) where
  -- the least state left passes
  pub walk-yes : f (count_trailing_zeros 8 left) ≡ true → (q : ℕ) → walked f (bit_or found (2 ^ count_trailing_zeros 8 left)) (bit_and left (left - 1)) q ≡ walked f found left q
  walk-yes t q =
      rw (bit-or found (2 ^ count_trailing_zeros 8 left) q, bit-shl-one (count_trailing_zeros 8 left) q, rest-bit 8 left q p l)
      (by_cases (ℕ_discrete q (count_trailing_zeros 8 left))
      (λ e. let x : f q ≡ true = ap f e ∙ t in
      let y : bit left q ≡ true = ap (bit left) e ∙ least-member left p l in
      rw (eq-eqb (count_trailing_zeros 8 left) q (sym e), x, y) (found-now (bit found q) _))
      (λ e. rw (ne_eqb (count_trailing_zeros 8 left) q (λ x. e (sym x)), ne_eqb q (count_trailing_zeros 8 left) e) (as_before (bit found q) (bit left q) (f q))))

  -- the least state left does not pass
  pub walk_no : f (count_trailing_zeros 8 left) ≡ false → (q : ℕ) → walked f found (bit_and left (left - 1)) q ≡ walked f found left q
  walk_no t q =
      rw (rest-bit 8 left q p l)
      (by_cases (ℕ_discrete q (count_trailing_zeros 8 left))
      (λ e. let x : f q ≡ false = ap f e ∙ t in rw (eq-eqb q (count_trailing_zeros 8 left) e, x) (none_here (bit found q) (bit left q)))
      (λ e. rw (ne_eqb q (count_trailing_zeros 8 left) e) (kept-left (bit found q) (bit left q) (f q))))

-- no state left
pub walk_end : (f : Set) (found q : ℕ) → walked f found 0 q ≡ bit found q
walk_end f found q = rw (bit-none q) (or-false (bit found q))

-- one more state of the mask of a test
pub put-yes : (q : ℕ) (f : Set) → q < 8 → f q ≡ true → bit_or (mask q f) (1 * 2 ^ q % 2 ^ 8) ≡ mask (q + 1) f
put-yes q f l t = put-bit q 1 f l (rw t)

pub put-no : (q : ℕ) (f : Set) → f q ≡ false → mask q f ≡ mask (q + 1) f
unfolding mask
put-no q f t = rw (add-one q, t) (omega arith)
