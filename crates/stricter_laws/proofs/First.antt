-- The number that stands for a core, in any list of codes: the least number whose code has it.
use mathlib.Core.Path.{◌≡◌, refl, sym, ◌∙◌, ap}
use mathlib.Core.Logic.{by_cases}
use mathlib.Core.List.{List}
use Prim.Native.Nat.{ℕ, ◌+◌, ◌≤◌, ◌<◌}
use native.Mathlib.Omega.{arith}
use native.Mathlib.Decide.{dec_lt}
use lib.Dec.{eqb}
use lib.ListN.{length, get_or, take}
use lib.Seq.{get_or-take, length-take-le}
use borrow.Author.Tests.{eqb-true, eq-eqb}
use Rattle.sets.specs.Tests.{first}
use Rattle.sets.proofs.Tests.{first-le, first-at}
use Rattle.stricter_spec.specs.Tags.{core_in, first_of}

module _ (codes : List ℕ) where
  abbrev core_at_lem : ℕ → ℕ
  core_at_lem i = core_in (get_or codes i 0)

  -- it is the least number of the core
  first-least : (i j : ℕ) → core_in (get_or codes j 0) ≡ core_in (get_or codes i 0) → first_of codes i ≤ j
  unfolding first_of
  first-least i j e = first-le (length codes) (λ x. eqb (core_at_lem x) (core_at_lem i)) 0 j (omega arith) (eq-eqb (core_at_lem j) (core_at_lem i) e)

  pub first-low : (i : ℕ) → first_of codes i ≤ i
  first-low i = first-least i i refl

  pub first-within : (i : ℕ) → i < length codes → first_of codes i < length codes
  first-within i l = let h = first-low i in omega arith

  -- and has the core
  first-core : (i : ℕ) → i < length codes → core_in (get_or codes (first_of codes i) 0) ≡ core_in (get_or codes i 0)
  unfolding first_of
  first-core i l =
      eqb-true _ (core_at_lem i)
      (first-at (length codes) (λ x. eqb (core_at_lem x) (core_at_lem i)) 0 i (omega arith) (omega arith) (eq-eqb (core_at_lem i) (core_at_lem i) refl))

  -- no other number is such
  pub first-is : (i p : ℕ) → i < length codes → core_in (get_or codes p 0) ≡ core_in (get_or codes i 0)
      → ((j : ℕ) → j < p → core_in (get_or codes j 0) ≡ core_in (get_or codes i 0) → ⊥) → p ≡ first_of codes i
  first-is i p l e none =
      let a = first-least i p e in
      by_cases (dec_lt (first_of codes i) p)
      (λ h. absurd (none (first_of codes i) h (first-core i l)))
      (λ h. omega arith)

  -- numbers of one core have one number that stands for it
  pub first-same : (i j : ℕ) → core_in (get_or codes i 0) ≡ core_in (get_or codes j 0) → first_of codes i ≡ first_of codes j
  unfolding first_of
  first-same i j e = ap (λ (c : ℕ). first (length codes) (λ x. eqb (core_at_lem x) c) 0) e

  -- and no others have
  pub first_alike : (i j : ℕ) → i < length codes → j < length codes → first_of codes i ≡ first_of codes j
      → core_in (get_or codes i 0) ≡ core_in (get_or codes j 0)
  first_alike i j l m e = sym (first-core i l) ∙ ap core_at_lem e ∙ first-core j m

  -- it stands for itself
  pub first-first : (i : ℕ) → i < length codes → first_of codes (first_of codes i) ≡ first_of codes i
  first-first i l = first-same (first_of codes i) i (first-core i l)

-- the codes above i make no difference
pub first-take : (codes : List ℕ) (i : ℕ) → i < length codes → first_of (take (i + 1) codes) i ≡ first_of codes i
first-take codes i l =
    let long : length (take (i + 1) codes) ≡ i + 1 = length-take-le (i + 1) codes (omega arith) in
    let p = first-low codes i in
    let at : (j : ℕ) → j ≤ i → get_or (take (i + 1) codes) j 0 ≡ get_or codes j 0 = λ j h. get_or-take (i + 1) codes j 0 (omega arith) in
    sym (first-is (take (i + 1) codes) i (first_of codes i) (omega arith)
    (ap core_in (at (first_of codes i) p) ∙ first-core codes i l ∙ sym (ap core_in (at i (omega arith))))
    (λ j h e. let b = first-least codes i j (sym (ap core_in (at j (omega arith))) ∙ e ∙ ap core_in (at i (omega arith))) in omega arith))
