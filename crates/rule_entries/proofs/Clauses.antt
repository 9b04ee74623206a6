-- Laws of the clause test.
use mathlib.Core.Path.{◌≡◌, refl, ap, sym, ◌∙◌}
use mathlib.Core.Bool.{Bool, true, false, ◌&&◌, false≢true}
use mathlib.Core.List.{List, [], ◌∷◌, Memᴰ}
use Prim.Native.Nat.{ℕ, zero, suc, ◌+◌, ◌-◌, ◌/◌, ◌^◌, ◌<◌, ◌≤◌}
use native.Mathlib.Numerals.{add-one}
use native.Mathlib.Nat.{add-zero}
use lib.Bits.{bit_and, and_mask, and_le_r}
use lib.Dec.{eqb}
use lib.Count.{count_trailing_zeros}
use lib.ListN.{length, drop, get_or, drop_of_length-le}
use lib.Seq.{drop-cons}
use native.Mathlib.Omega.{arith}
use borrow.Author.Tests.{eq-eqb, eqb-true}
use Rattle.sets.specs.Tests.{Set, every}
use Rattle.sets.specs.Lists.{all_of}
use Rattle.sets.specs.Masks.{bit, inside}
use Rattle.sets.proofs.Bools.{bif, clash, or-rt, iff}
use Rattle.theory.specs.Rule.{satisfies}
use Rattle.std.specs.Prelude.{None, Some, is_some}
use Rattle.rule_entries.specs.Met.{met_from, met_of}
use Rattle.sets.proofs.Bits.{bit-none, subset-and}
use Rattle.sets.proofs.Members.{members-cons, inside-members, inside-at, inside-all, inside-trim}

-- the test of a bit in the code
bit-tested : (m q : ℕ) → bit m q ≡ eqb (bit_and (m / 2 ^ q) 1) 1
bit-tested m q = unfold bit in rw (and_mask (m / 2 ^ q) 1)

-- ---- evaluated

-- 01: "No clause: never satisfied."
no-clause : met_of 255 [] ≡ None
no-clause = unfold met_from in refl

-- 01: "An empty clause: always."
empty-clause : met_of 0 (0 ∷ []) ≡ Some 0
empty-clause = unfold met_from inside every bit in refl

-- the first clause is not met, the second is
second-clause : met_of 5 (3 ∷ (4 ∷ [])) ≡ Some 1
second-clause = unfold met_from inside every bit in refl

-- ---- one clause

-- the least state of a clause, and the clause without it
abbrev least : ℕ → ℕ
least m = count_trailing_zeros 8 m

abbrev rest : ℕ → ℕ
rest m = bit_and m (m - 1)

inside-step : (X : Set) (m : ℕ) → 0 < m → m < 256 → inside 8 X m ≡ (X (least m) && inside 8 X (rest m))
unfolding all_of
inside-step X m p h = inside-members X m ∙ ap (λ (s : List ℕ). all_of s X) (members-cons m p h) ∙ ap (λ (b : Bool). X (least m) && b) (sym (inside-members X (rest m)))

-- a clause of which the least state is not in the set
pub missing : (s m : ℕ) → 0 < m → m < 256 → bit_and (s / 2 ^ least m) 1 ≡ 0 → inside 8 (bit s) m ≡ false
missing s m p h e = rw (inside-step (bit s) m p h, bit-tested s (least m), e)

-- a clause of which the least state is in the set
pub present : (s m : ℕ) → 0 < m → m < 256 → (bit_and (s / 2 ^ least m) 1 ≡ 0 → ⊥) → inside 8 (bit s) m ≡ inside 8 (bit s) (rest m)
present s m p h e = let b = and_le_r (s / 2 ^ least m) 1 in rw (inside-step (bit s) m p h, bit-tested s (least m), eq-eqb (bit_and (s / 2 ^ least m) 1) 1 (omega arith))

-- d is inside c exactly if c leaves d as it is
pub inside-and : (c d : ℕ) → d < 256 → eqb (bit_and d c) d ≡ inside 8 (bit c) d
inside-and c d l =
    iff _ _ (λ e. inside-all 8 (bit c) d ((subset-and 8 d c l).1 (eqb-true _ _ e))) (λ e. eq-eqb _ _ ((subset-and 8 d c l).0 (inside-at 8 (bit c) d e)))

-- the empty clause
pub no-state : (X : Set) → inside 8 X 0 ≡ true
no-state X = inside-all 8 X 0 (λ q l e. clash e (bit-none q))

-- ---- the walk over the clauses

pub met_next : (s : ℕ) (cl : List ℕ) (j : ℕ) → j < length cl → inside 8 (bit s) (get_or cl j 0) ≡ false → met_from s (drop j cl) j ≡ met_from s (drop (j + 1) cl) (j + 1)
met_next s cl j h e = unfold met_from in rw (drop-cons cl j 0 h, e, add-one)

pub met-here : (s : ℕ) (cl : List ℕ) (j : ℕ) → j < length cl → inside 8 (bit s) (get_or cl j 0) ≡ true → met_from s (drop j cl) j ≡ Some j
met-here s cl j h e = unfold met_from in rw (drop-cons cl j 0 h, e)

pub met-none : (s : ℕ) (cl : List ℕ) (j : ℕ) → length cl ≤ j → met_from s (drop j cl) j ≡ None
met-none s cl j h = unfold met_from in rw (drop_of_length-le cl {i = j} h)

-- ---- a clause is met exactly if the set satisfies the entry

met-from : (s : ℕ) (cl : List ℕ) (j : ℕ) → is_some (met_from s cl j) ≡ satisfies 8 (bit s) cl
unfolding met_from satisfies
met-from s [] j = refl
met-from s (c ∷ cs) j = bif (inside 8 (bit s) c) (λ t. rw t) (λ t. rw t (met-from s cs (j + 1)))

pub met-satisfies : (s : ℕ) (cl : List ℕ) → is_some (met_of s cl) ≡ satisfies 8 (bit s) cl
met-satisfies s cl = met-from s cl 0

-- the clause met: listed, inside the set, and none before it is
pub record Met-at (s : ℕ) (cl : List ℕ) (j : ℕ) : Type 0 where
  pub number : ℕ
  pub found : met_from s cl j ≡ Some (j + number)
  pub listed : number < length cl
  pub met : inside 8 (bit s) (get_or cl number 0) ≡ true
  pub first : (i : ℕ) → i < number → inside 8 (bit s) (get_or cl i 0) ≡ false

met-after : (s c : ℕ) (cs : List ℕ) (j : ℕ) → inside 8 (bit s) c ≡ false → Met-at s cs (j + 1) → Met-at s (c ∷ cs) j
unfolding met_from
met-after s c cs j t m = record {
  number = suc m.number;
  found = rw t (m.found ∙ ap Some (let n = m.number in let e : j + 1 + n ≡ j + suc n = omega arith in e));
  listed = let l = m.listed in omega arith;
  met = m.met;
  first = earlier;
}
  where
    earlier : (i : ℕ) → i < suc m.number → inside 8 (bit s) (get_or (c ∷ cs) i 0) ≡ false
    earlier zero l = t
    earlier (suc i) l = m.first i (omega arith)

pub met-first : (s : ℕ) (cl : List ℕ) (j : ℕ) → satisfies 8 (bit s) cl ≡ true → Met-at s cl j
unfolding met_from satisfies
met-first s [] j e = absurd (false≢true e)
met-first s (c ∷ cs) j e =
    bif (inside 8 (bit s) c)
    (λ t. record { number = 0; found = rw t (ap Some (sym (add-zero j))); listed = omega arith; met = t; first = λ i l. absurd (omega arith) })
    (λ t. met-after s c cs j t (met-first s cs (j + 1) (or-rt (inside 8 (bit s) c) (satisfies 8 (bit s) cs) e t)))

-- states from n on are in no clause
pub satisfies-wide : (k n : ℕ) (X : Set) → n ≤ k → (cl : List ℕ) → ((c : ℕ) → Memᴰ c cl → c < 2 ^ n) → satisfies k X cl ≡ satisfies n X cl
unfolding satisfies
satisfies-wide k n X l [] h = refl
satisfies-wide k n X l (c ∷ cs) h = rw (inside-trim n k X c l (h c (Memᴰ.head refl)), satisfies-wide k n X l cs (λ x m. h x (Memᴰ.tail m)))

-- in an entry over n states some clause is met exactly if the set satisfies the entry
pub met-entry : (n s : ℕ) (cl : List ℕ) → n ≤ 8 → ((c : ℕ) → Memᴰ c cl → c < 2 ^ n) → is_some (met_of s cl) ≡ satisfies n (bit s) cl
met-entry n s cl l h = met-satisfies s cl ∙ satisfies-wide 8 n (bit s) l cl h
