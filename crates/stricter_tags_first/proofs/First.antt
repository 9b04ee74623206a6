-- The first number with a core, by the pairs above it.
use mathlib.Core.Path.{◌≡◌, refl, sym, ◌∙◌, ap}
use mathlib.Core.Logic.{by_cases}
use mathlib.Core.List.{List}
use Prim.Native.Nat.{ℕ, ◌+◌, ◌*◌, ◌/◌, ◌≤◌, ◌<◌}
use native.Mathlib.Omega.{arith}
use native.Mathlib.Decide.{dec_lt, ℕ_discrete}
use lib.ListN.{length, get_or, take}
use lib.Seq.{ext_get_or, get_or-take, length-take-le, take-take}
use Rattle.sets.specs.Lists.{Ascending}
use Rattle.sets.proofs.Ascending.{asc-at, asc-from, asc-take-at}
use Rattle.slice_search.specs.Places.{below}
use Rattle.slice_search.proofs.Search.{before-place, from_place}
use Rattle.stricter_spec.specs.Tags.{core_in, first_of}
use Rattle.stricter_laws.proofs.First.{first-is}

-- ---- the codes up to a number

pub asc-take : {codes : List ℕ} (n : ℕ) → n ≤ length codes → Ascending codes → Ascending (take n codes)
asc-take {codes = codes} n fits asc =
    let b = length-take-le n codes fits in
    asc-from (take n codes) (λ p q h l.
    omega (arith, get_or-take n codes p 0 (omega arith), get_or-take n codes q 0 (omega arith), asc-at codes asc p q h (omega arith)))

-- a list whose elements below n are those of codes
pub front_same : (codes xs : List ℕ) (n : ℕ) → n ≤ length codes → length xs ≡ length codes → ((k : ℕ) → k < n → get_or xs k 0 ≡ get_or codes k 0) → take n xs ≡ take n codes
front_same codes xs n fits long same =
    let a = length-take-le n xs (omega arith) in
    let b = length-take-le n codes fits in
    ext_get_or 0 (take n xs) (take n codes) (a ∙ sym b) (λ k l. let m : k < n = omega arith in get_or-take n xs k 0 m ∙ same k m ∙ sym (get_or-take n codes k 0 m))

-- ---- pair by pair

-- no number below i with the core of i has a pair below h
abbrev pub None : List ℕ → ℕ → ℕ → Type 0
None xs i h = (j : ℕ) → j < i → core_in (get_or xs j 0) ≡ core_in (get_or xs i 0) → h ≤ get_or xs j 0 / 1099511627776

module _ (xs : List ℕ) (i : ℕ) (fits : i < length xs) (asc : Ascending (take (i + 1) xs)) where
  rising : (p q : ℕ) → p < q → q ≤ i → get_or xs p 0 < get_or xs q 0
  rising p q h l = asc-take-at xs (i + 1) (omega arith) asc p q h (omega arith)

  front : (k : ℕ) → k < i → get_or (take i xs) k 0 ≡ get_or xs k 0
  front k h = get_or-take i xs k 0 h

  pub front-asc : Ascending (take i xs)
  front-asc = rw (sym (take-take i (i + 1) xs (omega arith))) (asc-take i (omega (arith, length-take-le (i + 1) xs (omega arith))) asc)

  first-at-place : (p : ℕ) → p ≤ i → core_in (get_or xs p 0) ≡ core_in (get_or xs i 0)
      → ((j : ℕ) → j < p → core_in (get_or xs j 0) ≡ core_in (get_or xs i 0) → ⊥) → p ≡ first_of (take (i + 1) xs) i
  first-at-place p h e none =
      let at : (j : ℕ) → j ≤ i → get_or (take (i + 1) xs) j 0 ≡ get_or xs j 0 = λ j h. get_or-take (i + 1) xs j 0 (omega arith) in
      first-is (take (i + 1) xs) i p (omega (arith, length-take-le (i + 1) xs (omega arith)))
      (ap core_in (at p h) ∙ e ∙ sym (ap core_in (at i (omega arith))))
      (λ j l f. none j l (sym (ap core_in (at j (omega arith))) ∙ f ∙ ap core_in (at i (omega arith))))

  module _ (h : ℕ) (none : None xs i h) where
    abbrev key : ℕ
    key = core_in (get_or xs i 0) + h * 1099511627776

    pub hit : (p : ℕ) → p ≤ i → get_or xs p 0 ≡ key → p ≡ first_of (take (i + 1) xs) i
    hit p l e = first-at-place p l (omega arith) (λ j m f. let r = rising j p m l in let n = none j (omega arith) f in omega arith)

    pub miss : (p : ℕ) → p ≡ below key (take i xs) → (get_or xs p 0 ≡ key → ⊥) → None xs i (h + 1)
    miss p e other j l f =
        let n = none j l f in
        let long : length (take i xs) ≡ i = length-take-le i xs (omega arith) in
        by_cases (ℕ_discrete (get_or xs j 0) key)
        (λ x. by_cases (dec_lt j p)
        (λ m. let b = before-place key (take i xs) front-asc j (omega arith) in absurd (omega (arith, front j l)))
        (λ m. by_cases (ℕ_discrete j p)
        (λ y. absurd (other (ap (λ (z : ℕ). get_or xs z 0) (sym y) ∙ x)))
        (λ y. let b = from_place key (take i xs) front-asc p (omega arith) (omega arith) in
        let r = rising p j (omega arith) (omega arith) in
        absurd (omega (arith, front p (omega arith))))))
        (λ x. omega arith)

    pub last : get_or xs i 0 / 1099511627776 ≤ h → i ≡ first_of (take (i + 1) xs) i
    last t = first-at-place i (omega arith) refl (λ j m f. let r = rising j i m (omega arith) in let n = none j m f in omega arith)
