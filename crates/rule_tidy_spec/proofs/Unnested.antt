-- What stays of an entry has no clause inside another, and an entry without such clauses stays as it is.
use mathlib.Core.Path.{◌≡◌, refl, sym, ◌∙◌, ap}
use mathlib.Core.Logic.{⊎_elim, by_cases}
use mathlib.Core.Bool.{true, false, not}
use mathlib.Core.List.Memᴰ
use mathlib.Core.List.{List, [], ◌∷◌, Memᴰ}
use Prim.Native.Nat.{ℕ, suc, ◌^◌, ◌<◌}
use native.Mathlib.Omega.{arith}
use native.Mathlib.Decide.{dec_lt, ℕ_discrete}
use lib.ListN.{length, get_or, drop, drop_of_length-le}
use lib.Seq.{drop-cons}
use borrow.Author.Tests.{eq-eqb, ne_eqb}
use Rattle.sets.specs.Lists.{among}
use Rattle.sets.proofs.Bools.{bif, clash, and_i}
use Rattle.sets.proofs.Tests.{some-none, some-no}
use Rattle.sets.proofs.Lists.{mem-at, place_of, among-no}
use Rattle.rule_tidy_spec.specs.Tidy.{contains, tidy_entry_lem, minimal, first_minimal}
use Rattle.file_spec.specs.RuleRows.{nested}
use Rattle.rule_tidy_spec.proofs.Contains.{contains-refl, properly-irrefl, properly-none}
use Rattle.rule_tidy_spec.proofs.Minimal.{minimal-in, minimal-only, tidy-minimal, first-keep, first_out, first-distinct}

-- no clause contains another, read at two places
pub unnested-at : (n : ℕ) (cs : List ℕ) → nested n cs ≡ false → (i j : ℕ) → i < length cs → j < length cs → (i ≡ j → ⊥) → contains n (get_or cs i 0) (get_or cs j 0) ≡ false
unfolding nested
unnested-at n cs e i j l m d =
    bif (contains n (get_or cs i 0) (get_or cs j 0)) (λ t. clash (and_i (ap not (ne_eqb i j d)) t) (some-no _ _ (some-no _ _ e i l) j m)) (λ t. t)

pub unnested-all : (n : ℕ) (cs : List ℕ) → ((i j : ℕ) → i < length cs → j < length cs → (i ≡ j → ⊥) → contains n (get_or cs i 0) (get_or cs j 0) ≡ false) → nested n cs ≡ false
unfolding nested
unnested-all n cs h =
    some-none (length cs) _ (λ i l. some-none (length cs) _ (λ j m.
    by_cases (ℕ_discrete i j) (λ e. rw (eq-eqb i j e)) (λ d. rw (h i j l m d, ne_eqb i j d))))

-- what stays has no clause inside another
pub tidy-unnested : (n : ℕ) (cs : List ℕ) → ((c : ℕ) → Memᴰ c cs → c < 2 ^ n) → nested n (tidy_entry_lem n cs) ≡ false
tidy-unnested n cs small =
    rw (tidy-minimal n cs small) (unnested-all n T (λ i j l m d.
    bif (contains n (get_or T i 0) (get_or T j 0))
    (λ t. let a = first_out n cs [] cs (get_or T i 0) (mem-at T i l) in
    let b = first_out n cs [] cs (get_or T j 0) (mem-at T j m) in
    let e = minimal-only n cs small (get_or T i 0) (get_or T j 0) a.0 b.0 a.1 t in
    by_cases (dec_lt i j)
    (λ k. absurd (first-distinct n cs [] cs i j k m e))
    (λ k. absurd (first-distinct n cs [] cs j i (omega arith) l (sym e))))
    (λ t. t)))
  where
    T : List ℕ
    T = first_minimal n cs [] cs

-- an entry without such clauses: the clauses from place i on stay, seen are those before
module _ (n : ℕ) (all : List ℕ) (un : nested n all ≡ false) where
  minimal-at : (i : ℕ) → i < length all → minimal n all (get_or all i 0) ≡ true
  minimal-at i l =
      minimal-in n all (get_or all i 0) (λ d m.
      let r = place_of all d m in
      by_cases (ℕ_discrete i r.0)
      (λ e. rw (sym r.2, ← e) (properly-irrefl n (get_or all i 0)))
      (λ e. properly-none n (get_or all i 0) d (rw (sym r.2) (unnested-at n all un i r.0 l r.1 e))))

  stay-from : (cs seen : List ℕ) (i : ℕ) → drop i all ≡ cs → ((x : ℕ) → Memᴰ x seen → (j : ℕ) × (j < i) × (get_or all j 0 ≡ x)) → first_minimal n all seen cs ≡ cs
  unfolding first_minimal
  stay-from [] seen i e h = refl
  stay-from (c ∷ cs) seen i e h =
      by_cases (dec_lt i (length all))
      (λ l. let split = sym (drop-cons all i 0 l) ∙ e in
      let here : get_or all i 0 ≡ c = cc in
      let rest : drop (suc i) all ≡ cs = cc in
      let low : among seen c ≡ false = among-no seen c (λ m. let r = h c m in
      clash (rw (r.2 ∙ sym here) (contains-refl n (get_or all i 0))) (unnested-at n all un r.0 i (omega (arith, r.1)) l (λ z. omega (arith, r.1)))) in
      let least : minimal n all c ≡ true = rw (sym here) (minimal-at i l) in
      first-keep n all seen c cs (and_i least (ap not low))
      ∙ ap (λ (xs : List ℕ). c ∷ xs) (stay-from cs (c ∷ seen) (suc i) rest
      (λ x m. ⊎_elim (λ p. (i, omega arith, here ∙ sym p)) (λ k. let r = h x k in (r.0, omega (arith, r.1), r.2)) (Memᴰ.cases_cons m))))
      (λ l. let z : [] ≡ c ∷ cs = sym (drop_of_length-le all {i = i} (omega arith)) ∙ e in let y : ◌≡◌ {A = ℕ} 0 1 = cc in absurd (omega arith))

  -- it stays as it is
  pub unnested-stays : ((c : ℕ) → Memᴰ c all → c < 2 ^ n) → tidy_entry_lem n all ≡ all
  unnested-stays small = tidy-minimal n all small ∙ stay-from all [] 0 refl (λ x m. absurd (Memᴰ.not-nil m))
