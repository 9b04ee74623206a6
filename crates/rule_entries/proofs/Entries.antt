-- Where an entry's clauses stand, and the states that they name.
use mathlib.Core.Path.{◌≡◌, refl, sym, ◌∙◌, ap}
use mathlib.Core.Bool.{false, ◌||◌, or-false, or_assoc}
use mathlib.Core.List.Memᴰ
use mathlib.Core.List.{List, [], ◌∷◌, Memᴰ}
use Prim.Native.Nat.{ℕ, suc, ◌+◌, ◌*◌, ◌^◌, ◌<◌, ◌≤◌}
use native.Mathlib.Omega.{arith}
use native.Mathlib.Numerals.{add-one}
use native.Mathlib.Nat.{mul-le-mul, lt_of_lt_of_le}
use lib.Pow.{pow_mono}
use lib.Arith.{digits_lt}
use lib.Bits.{bit_or}
use lib.ListN.{length, drop, take, get_or, drop_of_length-le, take-append-drop}
use lib.Seq.{drop-cons}
use borrow.Author.Tests.{lt-ltb}
use Rattle.sets.specs.Masks.{bit}
use Rattle.sets.specs.Lists.{sum}
use Rattle.theory.specs.Rule.{Rule, entry}
use Rattle.theory.specs.Components.{named}
use Rattle.theory.specs.Passing.{WellFormed}
use Rattle.sets.proofs.Bits.{bit-or, bit_high}
use Rattle.sets.proofs.Walks.{sum-take, sum-append}

-- ---- parts of lists

mem-take : (k : ℕ) (xs : List ℕ) {x : ℕ} → Memᴰ x (take k xs) → Memᴰ x xs
mem-take k xs m = rw (take-append-drop k xs) at (Memᴰ.append_left (drop k xs) m)

mem-drop : (k : ℕ) (xs : List ℕ) {x : ℕ} → Memᴰ x (drop k xs) → Memᴰ x xs
mem-drop k xs m = rw (take-append-drop k xs) at (Memᴰ.append_right (take k xs) m)

pub sum-part : (xs : List ℕ) (i : ℕ) → sum (take i xs) ≤ sum xs
sum-part xs i = let e : sum (take i xs) + sum (drop i xs) ≡ sum xs = sym (sum-append (take i xs) (drop i xs)) ∙ ap sum (take-append-drop i xs) in omega arith

module _ (r : Rule) (w : WellFormed r) (q a : ℕ) (l : q < r.n) (m : a < r.s) where
  -- the entry's number is one of an entry
  pub entry-number : q * r.s + a < length r.counts
  entry-number = rw w.all_entries (digits_lt l m)

  -- its clauses are among the rule's
  pub entry-fits : sum (take (q * r.s + a) r.counts) + get_or r.counts (q * r.s + a) 0 ≤ length r.clauses
  entry-fits = omega (arith, sum-take r.counts (q * r.s + a) entry-number, sum-part r.counts (q * r.s + a + 1), w.all_clauses)

  pub entry-part : entry r q a ≡ take (get_or r.counts (q * r.s + a) 0) (drop (sum (take (q * r.s + a) r.counts)) r.clauses)
  entry-part = unfold entry in rw (lt-ltb a r.s m)

  pub entry-states : (c : ℕ) → Memᴰ c (entry r q a) → c < 2 ^ r.n
  entry-states c h =
      w.clause_states c (mem-drop (sum (take (q * r.s + a) r.counts)) r.clauses
      (mem-take (get_or r.counts (q * r.s + a) 0) (drop (sum (take (q * r.s + a) r.counts)) r.clauses) (rw entry-part at h)))

-- at most 128 entries
pub entries-few : (r : Rule) → WellFormed r → length r.counts ≤ 128
entries-few r w = few r.n r.s w.few_states w.few_letters w.all_entries
  where
    few : (n s : ℕ) {k : ℕ} → n ≤ 8 → s ≤ 16 → k ≡ n * s → k ≤ 128
    few n s {k} x y e = let z : n * s ≤ 8 * 16 = mul-le-mul x y in omega arith

-- ---- the states that clauses name

-- the union of the clauses before j, and those from j on
pub named-next : (cl : List ℕ) (j found p : ℕ) → j < length cl → (bit found p || named (drop j cl) p) ≡ (bit (bit_or found (get_or cl j 0)) p || named (drop (j + 1) cl) p)
unfolding named
named-next cl j found p l =
    rw (drop-cons cl j 0 l, add-one j, bit-or found (get_or cl j 0) p) (sym (or_assoc (bit found p) (bit (get_or cl j 0) p) (named (drop (suc j) cl) p)))

pub named-all : (cl : List ℕ) (j found p : ℕ) → length cl ≤ j → (bit found p || named (drop j cl) p) ≡ bit found p
named-all cl j found p l = unfold named in rw (drop_of_length-le cl {i = j} l) (or-false (bit found p))

-- clauses over n states name no other
pub named-high : (n : ℕ) (cl : List ℕ) → ((c : ℕ) → Memᴰ c cl → c < 2 ^ n) → (p : ℕ) → n ≤ p → named cl p ≡ false
unfolding named
named-high n [] h p l = refl
named-high n (c ∷ cs) h p l = rw (bit_high n c p (h c (Memᴰ.head refl)) l) (named-high n cs (λ x m. h x (Memᴰ.tail m)) p l)

pub accepting-small : (r : Rule) → WellFormed r → r.accepting < 256
accepting-small r w = lt_of_lt_of_le w.accepting_states (pow_mono w.few_states)
