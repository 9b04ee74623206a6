-- Small tables. Number 0 is accepting (its k is 0), number 1 is not (its k is 1).
use mathlib.Core.Path.{◌≡◌, refl, sym, ap, ◌∙◌}
use mathlib.Core.Logic.{◌⊎◌, inl, inr, ⊎_elim}
use mathlib.Core.Bool.{true, true≢false}
use mathlib.Core.List.Memᴰ
use mathlib.Core.List.{List, [], ◌∷◌, Memᴰ}
use Prim.Native.Nat.{ℕ}
use native.Mathlib.Omega.{arith}
use lib.ListN.{get_or}
use Rattle.sets.specs.Tests.{Set}
use Rattle.theory.specs.Code.{component_in, classes_in}
use Rattle.theory.specs.Macrostate.{begun, is_accepting_lem}
use Rattle.theory.specs.Run.{source_of}
use Rattle.stricter_spec.specs.Ways.{Way, Lasso}
use Rattle.stricter_spec.specs.Search.{OneParent, Shared, Searched}
use Rattle.stricter_spec.specs.declared.Found.TheVariants.{Nothing}

abbrev codes : List ℕ
codes = 0 ∷ 17592186044416 ∷ []

abbrev any : Set
any c = true

-- ---- parents

-- from both numbers to number 0 over letter 0: of each kind one
abbrev joining : List ℕ
joining = 0 ∷ 16777216 ∷ []

one_parent : OneParent codes joining
unfolding is_accepting_lem classes_in
one_parent = record {
  one = λ t u m n a b e. ⊎_elim (λ p. ⊎_elim (λ q. same t u 0 0 p q refl) (λ q. absurd (apart t u p q e)) (which u n))
      (λ p. ⊎_elim (λ q. absurd (apart u t q p (sym e))) (λ q. same t u 1 1 p q refl) (which u n)) (which t m);
}
  where
    which : (t : ℕ) → Memᴰ t joining → (source_of t ≡ 0) ⊎ (source_of t ≡ 1)
    which t m = ⊎_elim (λ e. inl (omega arith)) (λ k. ⊎_elim (λ e. inr (omega arith)) (λ k. absurd (Memᴰ.not-nil k)) (Memᴰ.cases_cons k)) (Memᴰ.cases_cons m)

    same : (t u x y : ℕ) → source_of t ≡ x → source_of u ≡ y → x ≡ y → source_of t ≡ source_of u
    same t u x y p q e = p ∙ e ∙ sym q

    apart : (t u : ℕ) → source_of t ≡ 0 → source_of u ≡ 1 → is_accepting_lem (get_or codes (source_of t) 0) ≡ is_accepting_lem (get_or codes (source_of u) 0) → ⊥
    apart t u p q e = true≢false (rw (p, q) at e)

-- ---- words

-- one number, with a transition to itself over letter 0: a word of 3 letters is not too long
one_number : Shared (0 ∷ []) (0 ∷ []) any (0 ∷ []) (0 ∷ []) any (0 ∷ []) (0 ∷ 0 ∷ [])
unfolding begun is_accepting_lem component_in classes_in
one_number = record { repeats = omega arith; short = omega arith; of_a = lasso; of_b = lasso }
  where
    step : {w : List ℕ} → Way (0 ∷ []) 0 w 0 → Way (0 ∷ []) 0 (0 ∷ w) 0
    step p = Way.go 0 (Memᴰ.head refl) (record { source = refl; letter = refl; target = refl }) p

    lasso : Lasso (0 ∷ []) (0 ∷ []) any (0 ∷ []) (0 ∷ 0 ∷ [])
    lasso = record {
      first = 0;
      within = omega arith;
      begins = refl;
      turn = 0;
      there = step Way.stay;
      met = 0;
      before = [];
      after = 0 ∷ 0 ∷ [];
      parts = refl;
      onto = Way.stay;
      accepts = refl;
      back = step (step Way.stay);
    }

-- from number 0 over letter 1 to number 1, which is not accepting, and over letter 0 back: the cycle from number 1 meets number 0
through : Lasso codes (65537 ∷ 16777216 ∷ []) any (1 ∷ []) (0 ∷ 1 ∷ [])
unfolding begun is_accepting_lem component_in classes_in
through = record {
  first = 0;
  within = omega arith;
  begins = refl;
  turn = 1;
  there = up Way.stay;
  met = 0;
  before = 0 ∷ [];
  after = 1 ∷ [];
  parts = refl;
  onto = down Way.stay;
  accepts = refl;
  back = up Way.stay;
}
  where
    up : {w : List ℕ} {y : ℕ} → Way (65537 ∷ 16777216 ∷ []) 1 w y → Way (65537 ∷ 16777216 ∷ []) 0 (1 ∷ w) y
    up p = Way.go 65537 (Memᴰ.head refl) (record { source = refl; letter = refl; target = refl }) p

    down : {w : List ℕ} {y : ℕ} → Way (65537 ∷ 16777216 ∷ []) 0 w y → Way (65537 ∷ 16777216 ∷ []) 1 (0 ∷ w) y
    down p = Way.go 16777216 (Memᴰ.tail (Memᴰ.head refl)) (record { source = refl; letter = refl; target = refl }) p

-- with the answer that there is no word, a word slice of one letter is not changed
untouched : Searched (0 ∷ []) [] any (0 ∷ []) [] any (5 ∷ []) (7 ∷ []) Nothing → ⊥
untouched s = let e = ap (λ (l : List ℕ). get_or l 0 0) s.0 in omega arith
