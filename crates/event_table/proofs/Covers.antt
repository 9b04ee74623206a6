-- The lines that are first for some event: a line is covered exactly if it is none of them.
use mathlib.Core.Path.{◌≡◌, refl, sym, ◌∙◌, ap}
use mathlib.Core.Bool.{true, false, ◌&&◌, not}
use mathlib.Core.List.{List}
use Prim.Native.Nat.{ℕ, zero, suc, ◌+◌, ◌*◌, ◌≤◌, ◌<◌}
use native.Mathlib.Omega.{arith}
use lib.Dec.{eqb, ltb}
use lib.ListN.{get_or}
use lib.Bits.{bit_and}
use lib.Count.{ones, count_trailing_zeros}
use borrow.Author.Tests.{lt-ltb, le-ltb}
use Rattle.sets.specs.Tests.{Set, some_below, count}
use Rattle.sets.specs.Masks.{bit}
use Rattle.sets.proofs.Bools.{bif, and_i}
use Rattle.sets.proofs.Tests.{some_at, some-get, some-none, some-no, count-ext, count-trim, count-more, count-max}
use Rattle.sets.proofs.Masks.{mask_lt, bit_mask}
use Rattle.sets.proofs.Bits.{ones-count}
use Rattle.event_spec.specs.Events.{line_count, holds, covered}
use Rattle.event_spec.specs.Translation.{has_covered_lem}
use Rattle.event_table.proofs.Lines.{bounds_of, uncovered, covered-iff}
use Rattle.event_table.specs.Masks.{firsts_of, Masks}
use Rattle.event_table.proofs.Meets.{meet, least_at, least-out}

-- ---- counting the numbers that fail a test

all-counted : (n : ℕ) → count n (λ j. true) ≡ n
unfolding count
all-counted zero = refl
all-counted (suc n) = omega (arith, all-counted n)

all_left : (n : ℕ) (f : Set) → some_below n f ≡ false → count n (λ j. not (f j)) ≡ n
all_left n f e = count-ext n (λ j. not (f j)) (λ j. true) (λ q l. ap not (some-no n f e q l)) ∙ all-counted n

fewer-left : (n : ℕ) (f : Set) → some_below n f ≡ true → count n (λ j. not (f j)) < n
fewer-left n f e =
    let r = some-get n f e in
    let k = count-more n (λ j. not (f j)) (λ j. true) (λ x l t. refl) r.0 r.1 (ap not r.2) refl in
    omega (arith, count-max n (λ j. true))

-- some number passes exactly if fewer than n fail
left_over : (n : ℕ) (f : Set) → ltb (count n (λ j. not (f j))) n ≡ some_below n f
left_over n f =
    bif (some_below n f)
    (λ t. lt-ltb (count n (λ j. not (f j))) n (fewer-left n f t) ∙ sym t)
    (λ t. le-ltb (count n (λ j. not (f j))) n (let e = all_left n f t in omega arith) ∙ sym t)

-- ---- the lines

module _ (t kinds drives : List ℕ) (bytes : (i : ℕ) → get_or t i 0 < 256) (m : Masks t kinds drives) where
  -- line j is the least of a meet
  abbrev leads : ℕ → ℕ → Set
  leads x y j = eqb (count_trailing_zeros 64 (bit_and (get_or kinds x 0) (get_or drives y 0))) j

  abbrev is_first_lem : Set
  is_first_lem j = some_below 256 (λ x. some_below 256 (λ y. leads x y j))

  leads-is : (x y j : ℕ) → x < 256 → y < 256 → j < line_count t → leads x y j ≡ holds t x y j && not (some_below j (holds t x y))
  leads-is x y j lx ly l = ap (λ (k : ℕ). eqb (count_trailing_zeros 64 k) j) (meet t kinds drives m x y lx ly) ∙ least_at _ _ m.lines j l

  first-uncovered : (j : ℕ) → j < line_count t → is_first_lem j ≡ not (covered t j)
  first-uncovered j l =
      bif (covered t j)
      (λ c. some-none 256 (λ x. some_below 256 (λ y. leads x y j))
      (λ x lx. some-none 256 (λ y. leads x y j)
      (λ y ly. leads-is x y j lx ly l ∙
      bif (holds t x y j)
      (λ h. rw (h, (covered-iff t j).0 c x y h))
      (λ h. rw h)))
      ∙ sym (ap not c))
      (λ c. let u = uncovered t j c in
      let b = bounds_of t u.kind u.drive j u.held in
      let lx : u.kind < 256 = omega (arith, b.kind-high, bytes (5 * j + 1)) in
      let ly : u.drive < 256 = omega (arith, b.drive-high, bytes (5 * j + 3)) in
      some_at 256 (λ x. some_below 256 (λ y. leads x y j)) u.kind lx
      (some_at 256 (λ y. leads u.kind y j) u.drive ly
      (leads-is u.kind u.drive j lx ly l ∙ and_i u.held (ap not u.none-earlier)))
      ∙ sym (ap not c))

  none_out : (j : ℕ) → line_count t ≤ j → j < 64 → is_first_lem j ≡ false
  none_out j l k =
      some-none 256 (λ x. some_below 256 (λ y. leads x y j))
      (λ x lx. some-none 256 (λ y. leads x y j)
      (λ y ly. ap (λ (z : ℕ). eqb (count_trailing_zeros 64 z) j) (meet t kinds drives m x y lx ly) ∙ least-out (line_count t) (holds t x y) m.lines j l k))

  firsts-count : ones (firsts_of kinds drives) ≡ count (line_count t) (λ j. not (covered t j))
  firsts-count =
      ones-count 64 (firsts_of kinds drives) (mask_lt 64 is_first_lem)
      ∙ count-ext 64 (bit (firsts_of kinds drives)) is_first_lem (λ q l. bit_mask 64 is_first_lem q l)
      ∙ count-trim 64 (line_count t) is_first_lem m.lines none_out ∙ count-ext (line_count t) is_first_lem (λ j. not (covered t j)) first-uncovered

  -- a line is covered exactly if fewer lines are first for some event than there are lines
  pub covered-is : ltb (ones (firsts_of kinds drives)) (line_count t) ≡ has_covered_lem t
  covered-is = unfold has_covered_lem in ap (λ (k : ℕ). ltb k (line_count t)) firsts-count ∙ left_over (line_count t) (covered t)
