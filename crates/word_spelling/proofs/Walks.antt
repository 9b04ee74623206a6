-- One turn of each loop over the letters of a word.
use mathlib.Core.Path.{◌≡◌, sym, ◌∙◌, ap}
use mathlib.Core.Bool.{true, false}
use mathlib.Core.List.{List, [], ◌++◌}
use Prim.Native.Nat.{ℕ, suc, ◌+◌, ◌-◌, ◌≤◌, ◌<◌}
use native.Mathlib.Omega.{arith}
use native.Mathlib.Nat.{zero-add}
use native.Mathlib.Numerals.{add-one}
use lib.Dec.{eqb}
use lib.ListN.{length, get_or, take, drop, set}
use lib.Seq.{paste-suc}
use borrow.Author.Tests.{eq-eqb, ne_eqb}
use Rattle.sets.specs.Tests.{every, first}
use Rattle.sets.proofs.Tests.{every-next, every-stop, first-yes, first-no}
use Rattle.theory.specs.Word.{places, next_place_lem, letter_at_lem, place, letters}
use Rattle.word_spelling_spec.specs.SpellingComputed.{comes_again_lem, cycle_length_lem, shortened}
use Rattle.word_spelling_spec.proofs.Steps.{place_is, letter-is}
use Rattle.word_spelling_spec.proofs.Tidied.{shortened_same, shortened-other}

-- ---- the letters of a cycle, and the letters d steps on

-- the first j letters of the cycle come again d steps on
abbrev pub AgainTo : List ℕ → ℕ → ℕ → Type 0
AgainTo cycle d j = every j (λ x. eqb (letters [] cycle (x + d)) (letters [] cycle x)) ≡ true

-- the place of the letter d steps on from the j-th
abbrev pub later_of : List ℕ → ℕ → ℕ → ℕ
later_of cycle d j = place (next_place_lem [] cycle) (j + d)

module _ (cycle : List ℕ) (repeats : 0 < length cycle) (d : ℕ) where
  pub later_first : d < length cycle → d ≡ later_of cycle d 0
  later_first h = let e : 0 + d ≡ d = omega arith in sym (ap (place (next_place_lem [] cycle)) e ∙ place_is [] cycle repeats d (omega arith))

  pub later-next : (j later : ℕ) → later ≡ later_of cycle d j → next_place_lem [] cycle later ≡ later_of cycle d (j + 1)
  unfolding place
  later-next j later e = let f : j + 1 + d ≡ suc (j + d) = omega arith in ap (next_place_lem [] cycle) e ∙ sym (ap (place (next_place_lem [] cycle)) f)

  there : (j later : ℕ) → later ≡ later_of cycle d j → letters [] cycle (j + d) ≡ get_or cycle later 0
  there j later e = unfold letter_at_lem in ap (letter_at_lem [] cycle) (sym e)

  here : (j : ℕ) → j < length cycle → letters [] cycle j ≡ get_or cycle j 0
  here j h = letter-is [] cycle repeats j (omega arith)

  pub again-next : (j later : ℕ) → j < length cycle → later ≡ later_of cycle d j → get_or cycle j 0 ≡ get_or cycle later 0 → AgainTo cycle d j → AgainTo cycle d (j + 1)
  again-next j later h e f t =
      every-next j (λ x. eqb (letters [] cycle (x + d)) (letters [] cycle x)) t (eq-eqb _ _ (there j later e ∙ sym f ∙ sym (here j h)))

  pub again-stop : (j later : ℕ) → j < length cycle → later ≡ later_of cycle d j → (get_or cycle j 0 ≡ get_or cycle later 0 → ⊥) → comes_again_lem cycle d ≡ false
  unfolding comes_again_lem
  again-stop j later h e f =
      every-stop (length cycle) (λ x. eqb (letters [] cycle (x + d)) (letters [] cycle x)) j h
      (ne_eqb _ _ (λ g. f (sym (here j h) ∙ sym g ∙ there j later e)))

  pub again-end : (j : ℕ) → j ≡ length cycle → AgainTo cycle d j → comes_again_lem cycle d ≡ true
  unfolding comes_again_lem
  again-end j e t = ap (λ (n : ℕ). every n (λ x. eqb (letters [] cycle (x + d)) (letters [] cycle x))) (sym e) ∙ t

-- ---- the shortest cycle

module _ (cycle : List ℕ) where
  -- no number from 1 to below d serves
  abbrev pub NoneTo : ℕ → Type 0
  NoneTo d = cycle_length_lem cycle ≡ first (length cycle + 1 - d) (comes_again_lem cycle) d

  pub none_first : NoneTo 1
  unfolding cycle_length_lem
  none_first = let e : length cycle ≡ length cycle + 1 - 1 = omega arith in ap (λ (k : ℕ). first k (comes_again_lem cycle) 1) e

  pub found : (d : ℕ) → d ≤ length cycle → comes_again_lem cycle d ≡ true → NoneTo d → cycle_length_lem cycle ≡ d
  found d l t e =
      let f : length cycle + 1 - d ≡ suc (length cycle - d) = omega arith in
      e ∙ ap (λ (k : ℕ). first k (comes_again_lem cycle) d) f ∙ first-yes (length cycle - d) (comes_again_lem cycle) d t

  pub none-next : (d : ℕ) → d ≤ length cycle → comes_again_lem cycle d ≡ false → NoneTo d → NoneTo (d + 1)
  none-next d l t e =
      let f : length cycle + 1 - d ≡ suc (length cycle + 1 - (d + 1)) = omega arith in
      e ∙ ap (λ (k : ℕ). first k (comes_again_lem cycle) d) f ∙ first-no (length cycle + 1 - (d + 1)) (comes_again_lem cycle) d t
      ∙ ap (first (length cycle + 1 - (d + 1)) (comes_again_lem cycle)) (sym (add-one d))

-- ---- the shortest lead-in

module _ (lead cycle : List ℕ) (repeats : 0 < length cycle) (p m : ℕ) (some_left : 0 < m) (fits : m - 1 + p < places lead cycle) where
  abbrev w : ℕ → ℕ
  w = letters lead cycle

  at : (i : ℕ) → i < places lead cycle → w i ≡ letter_at_lem lead cycle i
  at i l = unfold letter_at_lem in letter-is lead cycle repeats i l

  whole : suc (m - 1) ≡ m
  whole = omega arith

  pub shorter : letter_at_lem lead cycle (m - 1) ≡ letter_at_lem lead cycle (m - 1 + p) → shortened w p m ≡ shortened w p (m - 1)
  shorter e = ap (shortened w p) (sym whole) ∙ shortened_same w p (m - 1) (at (m - 1) (omega arith) ∙ e ∙ sym (at (m - 1 + p) fits))

  pub shortest : (letter_at_lem lead cycle (m - 1) ≡ letter_at_lem lead cycle (m - 1 + p) → ⊥) → shortened w p m ≡ m
  shortest n = ap (shortened w p) (sym whole) ∙ shortened-other w p _ (λ e. n (sym (at _ (omega arith)) ∙ e ∙ at _ fits)) ∙ whole

-- ---- letters written in order

pub written_next : (s old : List ℕ) (i x : ℕ) → i < length s → i < length old → x ≡ get_or s i 0 → set (take i s ++ drop i old) i x ≡ take (i + 1) s ++ drop (i + 1) old
written_next s old i x h k e = rw (e, add-one i) (rw (zero-add i, zero-add (suc i)) at (paste-suc old 0 s i 0 (omega arith) h))
