-- The search for a known cycle.
use mathlib.Core.Path.{◌≡◌, refl, sym, ◌∙◌, ap, ap₂}
use mathlib.Core.Bool.{false, false≢true}
use mathlib.Core.Logic.{⊎_elim, by_cases}
use mathlib.Core.List.Memᴰ
use mathlib.Core.List.{List, [], ◌∷◌, ◌++◌, Memᴰ}
use Prim.Native.Nat.{ℕ, zero, suc, ◌+◌, ◌≤◌, ◌<◌}
use native.Mathlib.Omega.{arith}
use native.Mathlib.Decide.{dec_lt}
use native.Mathlib.Numerals.{add-one}
use lib.ListN.{length, take, drop, set, length-append}
use lib.Seq.{get_or-set_same, get_or-set_other}
use Rattle.sets.proofs.Bools.{bif}
use Rattle.sheet_spec.specs.Computed.{is_known}
use Rattle.sheet_laws.proofs.Distinct.{known-iff}
use Rattle.sheet_cycles.specs.Known.{part_at, known_of, Found}

module _ (sheet from size : List ℕ) where
  known_in : (n k : ℕ) → k < n → Memᴰ (part_at sheet from size k) (known_of sheet from size n)
  unfolding known_of
  known_in zero k l = absurd (omega arith)
  known_in (suc n) k l =
      by_cases (dec_lt k n) (λ h. Memᴰ.append_left (part_at sheet from size n ∷ []) (known_in n k h))
      (λ h. let e : k ≡ n = omega arith in Memᴰ.append_right (known_of sheet from size n) (Memᴰ.head (ap (part_at sheet from size) e)))

  pub known-length : (n : ℕ) → length (known_of sheet from size n) ≡ n
  unfolding known_of
  known-length zero = refl
  known-length (suc n) = length-append (known_of sheet from size n) (part_at sheet from size n ∷ []) ∙ omega (arith, known-length n)

  module _ (c : List ℕ) where
    -- none of the first k is c
    abbrev pub NotTo : ℕ → Type 0
    NotTo k = is_known c (known_of sheet from size k) ≡ false

    pub not_start : NotTo 0
    unfolding known_of is_known
    not_start = refl

    pub not-next : (k : ℕ) → (part_at sheet from size k ≡ c → ⊥) → NotTo k → NotTo (k + 1)
    unfolding known_of
    not-next k e t =
        let ks = known_of sheet from size k in let p = part_at sheet from size k in
        rw (add-one k) (bif (is_known c (ks ++ (p ∷ [])))
        (λ y. absurd (⊎_elim
        (λ m. false≢true (sym t ∙ (known-iff c ks).1 m))
        (λ m. e (sym (Memᴰ.eq_of_singleton m)))
        (Memᴰ.append_cases ks ((known-iff c (ks ++ (p ∷ []))).0 y))))
        (λ y. y))

module _ {sheet from size c : List ℕ} {n k : ℕ} where
  pub found_here : k < n → part_at sheet from size k ≡ c → Found sheet from size n c k
  found_here l e = record {
    most = omega arith;
    same = λ h. ((known-iff c (known_of sheet from size n)).1 (Memᴰ.cast (sym e) (known_in sheet from size n k l)), e);
    none = λ h. absurd (omega arith);
  }

  pub found_none : k ≡ n → NotTo sheet from size c k → Found sheet from size n c k
  found_none e t = record { most = omega arith; same = λ h. absurd (omega arith); none = λ h. ap (λ (x : ℕ). is_known c (known_of sheet from size x)) (sym h) ∙ t }

-- ---- one more part

module _ (sheet from size : List ℕ) (n x y : ℕ) where
  pub part-set : (k : ℕ) → k < n → part_at sheet (set from n x) (set size n y) k ≡ part_at sheet from size k
  part-set k l = ap₂ (λ (a b : ℕ). take a (drop b sheet)) (get_or-set_other size n k y 0 (λ e. omega arith)) (get_or-set_other from n k x 0 (λ e. omega arith))

  -- the first k parts, k at most n, are those of before
  known-set : (k : ℕ) → k ≤ n → known_of sheet (set from n x) (set size n y) k ≡ known_of sheet from size k
  unfolding known_of
  known-set zero h = refl
  known-set (suc k) h = ap₂ (λ (ks : List (List ℕ)) (c : List ℕ). ks ++ (c ∷ [])) (known-set k (omega arith)) (part-set k (omega arith))

  pub part-new : n < length from → n < length size → part_at sheet (set from n x) (set size n y) n ≡ take y (drop x sheet)
  part-new h l = ap₂ (λ (a b : ℕ). take a (drop b sheet)) (get_or-set_same size n y 0 l) (get_or-set_same from n x 0 h)

  pub known_more : n < length from → n < length size → known_of sheet (set from n x) (set size n y) (n + 1) ≡ known_of sheet from size n ++ (take y (drop x sheet) ∷ [])
  unfolding known_of
  known_more h l =
      ap (known_of sheet (set from n x) (set size n y)) (add-one n)
      ∙ ap₂ (λ (ks : List (List ℕ)) (c : List ℕ). ks ++ (c ∷ [])) (known-set n (omega arith)) (part-new h l)
