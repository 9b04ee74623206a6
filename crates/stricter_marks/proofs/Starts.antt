-- Where runs begin: tags make no difference to it, and of the numbers of a core only the first is such a number.
use mathlib.Core.Path.{◌≡◌, refl, sym, ap, ap₂, ◌∙◌}
use mathlib.Core.Bool.{Bool, true, ◌&&◌}
use mathlib.Core.List.{List}
use Prim.Native.Nat.{ℕ, ◌+◌, ◌*◌, ◌/◌, ◌%◌, ◌^◌, ◌<◌}
use native.Mathlib.Omega.{arith}
use borrow.Author.Tests.{eqb-true}
use lib.Dec.{eqb}
use lib.ListN.{length, get_or}
use Rattle.sets.specs.Lists.{Ascending}
use Rattle.sets.specs.Masks.{bit}
use Rattle.sets.specs.Tests.{Set}
use Rattle.sets.proofs.Ascending.{asc-at}
use Rattle.sets.proofs.Bools.{and_l, and_r}
use Rattle.sets.proofs.Masks.{above}
use Rattle.theory.specs.Code.{component_in, classes_in}
use Rattle.theory.specs.Macrostate.{begun}
use Rattle.stricter_laws.specs.Tests.{starts_in}
use Rattle.stricter_spec.specs.Tags.{core_in, first_of, plain}
use Rattle.stricter_laws.proofs.First.{first-is}
use Rattle.slice_search.proofs.LowParts.{low-long, low-at}

pub bit-low : (q : ℕ) → q < 8 → (c : ℕ) → bit (c % 281474976710656) q ≡ bit c q
unfolding bit
bit-low q l c =
    let s : c ≡ c / 281474976710656 * 2 ^ 48 + c % 281474976710656 = omega arith in
    ap (λ (x : ℕ). eqb x 1) (sym (ap (λ (x : ℕ). x / 2 ^ q % 2) s ∙ above (c / 281474976710656) (c % 281474976710656) 48 q (omega arith)))

-- a test that looks at the bits below the tag
abbrev pub Low : Set → Type 0
Low s = (c : ℕ) → s (c % 281474976710656) ≡ s c

begun-low : {s : Set} → Low s → (c : ℕ) → begun s (c % 281474976710656) ≡ begun s c
unfolding begun component_in classes_in
begun-low low c =
    let a : c % 281474976710656 / 2 ^ 40 % 16 ≡ c / 2 ^ 40 % 16 = omega arith in
    let b : c % 281474976710656 / 2 ^ 44 % 16 ≡ c / 2 ^ 44 % 16 = omega arith in
    ap₂ (λ (x y : Bool). x && y) (low c) (ap₂ (λ (x y : ℕ). eqb x 0 && eqb y 0) a b)

module _ {s t : Set} (low-s : Low s) (low-t : Low t) (ca cb ta tb : List ℕ) (a : plain ta ≡ ca) (b : plain tb ≡ cb) where
  code_at : (cs ts : List ℕ) → plain ts ≡ cs → (i : ℕ) → get_or cs i 0 ≡ get_or ts i 0 % 281474976710656
  code_at cs ts e i = ap (λ (l : List ℕ). get_or l i 0) (sym e) ∙ low-at 281474976710656 (omega arith) ts i

  long : length tb ≡ length cb
  long = sym (low-long 281474976710656 tb) ∙ ap length b

  pub starts-plain : (x : ℕ) → starts_in ta tb s t x ≡ starts_in ca cb s t x
  unfolding starts_in
  starts-plain x =
      ap (λ (n : ℕ). begun s (get_or ta (x / n) 0) && begun t (get_or tb (x % n) 0)) long
      ∙ sym (ap₂ (λ (p q : Bool). p && q)
      (ap (begun s) (code_at ca ta a (x / length cb)) ∙ begun-low low-s (get_or ta (x / length cb) 0))
      (ap (begun t) (code_at cb tb b (x % length cb)) ∙ begun-low low-t (get_or tb (x % length cb) 0)))

-- a code where a run begins is its core
begun-core : (s : Set) (c : ℕ) → c < 281474976710656 → begun s c ≡ true → c ≡ core_in c
unfolding begun component_in classes_in
begun-core s c l e =
    let r = and_r (s c) _ e in
    let a = eqb-true (c / 2 ^ 40 % 16) 0 (and_l _ (eqb (c / 2 ^ 44 % 16) 0) r) in
    let b = eqb-true (c / 2 ^ 44 % 16) 0 (and_r (eqb (c / 2 ^ 40 % 16) 0) _ r) in
    omega arith

pub begun_first : (codes : List ℕ) → Ascending codes → ((i : ℕ) → i < length codes → get_or codes i 0 < 281474976710656)
    → (s : Set) (i : ℕ) → i < length codes → begun s (get_or codes i 0) ≡ true → first_of codes i ≡ i
begun_first codes asc low s i l e =
    sym (first-is codes i i l refl (λ j h c. omega (arith, asc-at codes asc j i h l, begun-core s (get_or codes i 0) (low i l) e)))
