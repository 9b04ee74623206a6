-- Numbers from which no accepting run goes on: noted by a byte each, and without a core from then on.
use mathlib.Core.Path.{◌≡◌, refl, sym, ap, ◌∙◌}
use mathlib.Core.Logic.{by_cases}
use mathlib.Core.Bool.{Bool, true, false, ◌||◌, cond, or-false, or-true}
use mathlib.Core.List.{List, [], ◌∷◌}
use Prim.Native.Nat.{ℕ, ◌+◌, ◌*◌, ◌/◌, ◌%◌, ◌^◌, ◌≤◌, ◌<◌}
use native.Mathlib.Omega.{arith}
use native.Mathlib.Decide.{dec_lt}
use borrow.Author.Tests.{le-leb, lt-leb}
use lib.Dec.{leb, ltb}
use lib.ListN.{length, get_or, get_or-eq_default}
use Rattle.sets.specs.Tests.{one}
use Rattle.trim_spec.specs.Trimmed.{is_live}
use Rattle.trim_spec.specs.Tagged.{highs, lows}
use Rattle.theory_laws.proofs.Tagged.{highs-at}
use Rattle.slice_search.specs.LowParts.{low_parts}
use Rattle.stricter_spec.specs.Tags.{first_of, TaggedCodes, told_of, ToldCodes}
use Rattle.stricter_laws.specs.Fill.{Filled}
use Rattle.stricter_laws.proofs.Fill.{filled-same}
use Rattle.stricter_tags.specs.Buried.{Buried}

pub low-lows : (xs : List ℕ) → low_parts (2 ^ 48) xs ≡ lows xs
unfolding low_parts lows
low-lows [] = refl
low-lows (x ∷ xs) = ap (λ (l : List ℕ). x % 2 ^ 48 ∷ l) (low-lows xs)

pub low-all : (codes : List ℕ) → ((i : ℕ) → i < length codes → get_or codes i 0 < 281474976710656) → (i : ℕ) → get_or codes i 0 < 2 ^ 48
low-all codes low i =
    by_cases (dec_lt i (length codes))
    (λ l. let h = low i l in omega arith)
    (λ l. let e = get_or-eq_default codes 0 {n = i} (omega arith) in omega arith)

-- a code's mark is above its 48 bits
pub noted : (xs marks : List ℕ) {old new : List ℕ} (n : ℕ) → highs xs ≡ marks → length xs ≡ n
    → Filled (λ i. one (ltb 0 (get_or xs i 0 / 2 ^ 48))) 0 (length xs) old new → Filled (λ i. one (is_live marks i)) 0 n old new
unfolding is_live
noted xs marks n h e f =
    rw e at (filled-same (λ i. one (ltb 0 (get_or marks i 0))) f
    (λ x a b. ap (λ (v : ℕ). one (ltb 0 v)) (sym (highs-at xs x) ∙ ap (λ (l : List ℕ). get_or l x 0) h)))

-- what number k gets where the list has fewer than 65,536
abbrev pub given : List ℕ → List ℕ → ℕ → ℕ
given codes live k = cond (ltb 0 (get_or live k 0)) (get_or codes k 0) (get_or codes k 0 % 2 ^ 48 + 2 ^ 48 * length codes)

pub all_stay : (codes live : List ℕ) → 65536 ≤ length codes → Buried codes live codes
all_stay codes live l = record {
  long = refl;
  each = λ i m. sym (ap (λ (b : Bool). cond b (get_or codes i 0) (get_or codes i 0 % 2 ^ 48 + 2 ^ 48 * length codes))
      (ap (λ (b : Bool). ltb 0 (get_or live i 0) || b) (le-leb 65536 (length codes) l) ∙ or-true (ltb 0 (get_or live i 0))));
}

pub some_go : {codes : List ℕ} (live : List ℕ) {new : List ℕ} → length codes < 65536 → Filled (given codes live) 0 (length codes) codes new → Buried codes live new
some_go {codes = codes} live l f = record {
  long = f.long;
  each = λ i m. f.inside i (omega arith) m
      ∙ sym (ap (λ (b : Bool). cond b (get_or codes i 0) (get_or codes i 0 % 2 ^ 48 + 2 ^ 48 * length codes))
      (ap (λ (b : Bool). ltb 0 (get_or live i 0) || b) (lt-leb 65536 (length codes) l) ∙ or-false (ltb 0 (get_or live i 0))));
}

one-live : (b : Bool) (v : ℕ) → v ≡ one b → ltb 0 v ≡ b
one-live true v e = ap (ltb 0) e
one-live false v e = ap (ltb 0) e

module _ {codes : List ℕ} (marks : List ℕ) {tagged live new : List ℕ} (T : TaggedCodes codes tagged)
    (low : (i : ℕ) → get_or codes i 0 < 2 ^ 48)
    (noted : (i : ℕ) → i < length codes → get_or live i 0 ≡ one (is_live marks i)) (B : Buried tagged live new) where
  told-by : (b : Bool) (i : ℕ) → i < length codes → (is_live marks i || leb 65536 (length codes)) ≡ b → get_or new i 0 ≡ get_or codes i 0 + 281474976710656 * told_of codes marks i
  unfolding told_of
  told-by b i l e =
      let c : (ltb 0 (get_or live i 0) || leb 65536 (length tagged)) ≡ b
      = ap (λ (d : Bool). d || leb 65536 (length tagged)) (one-live (is_live marks i) (get_or live i 0) (noted i l))
      ∙ ap (λ (n : ℕ). is_live marks i || leb 65536 n) T.long ∙ e in
      let each = B.each i (omega (arith, T.long)) in
      pick b (rw c at each) (rw e)
    where
      pick : (b : Bool) → get_or new i 0 ≡ cond b (get_or tagged i 0) (get_or tagged i 0 % 2 ^ 48 + 2 ^ 48 * length tagged)
          → (cond (is_live marks i || leb 65536 (length codes)) (first_of codes i) (length codes) ≡ cond b (first_of codes i) (length codes))
          → get_or new i 0 ≡ get_or codes i 0 + 281474976710656 * cond (is_live marks i || leb 65536 (length codes)) (first_of codes i) (length codes)
      pick true f g = omega (arith, f, g, T.each i l)
      pick false f g = omega (arith, f, g, T.each i l, T.long, low i)

  pub told-codes : ToldCodes codes marks new
  told-codes = record { long = B.long ∙ T.long; each = λ i l. told-by (is_live marks i || leb 65536 (length codes)) i l refl }
