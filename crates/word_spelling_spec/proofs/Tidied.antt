-- The tidy spelling: there is one, it is what is computed, and words agree exactly if their tidy spellings are equal.
use mathlib.Core.Path.{◌≡◌, refl, sym, ◌∙◌, ap, fun_ext}
use mathlib.Core.Logic.{◌↔◌, by_cases}
use mathlib.Core.Bool.{true}
use mathlib.Core.List.{List, [], ◌++◌}
use Prim.Native.Nat.{ℕ, zero, suc, ◌+◌, ◌-◌, ◌≤◌, ◌<◌}
use native.Mathlib.Omega.{arith}
use native.Mathlib.Decide.{dec_lt, ℕ_discrete}
use lib.Dec.{eqb}
use lib.ListN.{length, get_or, take, drop, length-append}
use lib.Seq.{ext_get_or, take-append_seam, drop-append_seam, take-append-le, take-add}
use borrow.Author.Tests.{eqb-true, eq-eqb}
use Rattle.sets.specs.Tests.{Set, first}
use Rattle.sets.proofs.Bools.{bif}
use Rattle.sets.proofs.Tests.{every-at, every-all, first-at, first-le}
use Rattle.theory.specs.Word.{letters}
use Rattle.word_spelling_spec.specs.Spelling.{Agree, Spells, Tidy}
use Rattle.word_spelling_spec.specs.SpellingComputed.{comes_again_lem, cycle_length_lem, shortened, lead_length_lem, tidy_lead, tidy_cycle}
use Rattle.word_spelling_spec.proofs.Steps.{letter-is, letters-again, letters-behind}
use Rattle.word_spelling_spec.proofs.Periods.{Repeats, spelled-repeats, spelled_at, lead-length, cycle-length, repeats-spells, repeats-sooner}

-- ---- one spelling at most

-- two spellings with the same lengths are one
pub spelling-unique : (w : ℕ → ℕ) (l₁ c₁ l₂ c₂ : List ℕ) → Spells w l₁ c₁ → Spells w l₂ c₂ → length l₁ ≡ length l₂ → length c₁ ≡ length c₂ → (l₁ ≡ l₂) × (c₁ ≡ c₂)
spelling-unique w l₁ c₁ l₂ c₂ S T e f =
    let whole : l₁ ++ c₁ ≡ l₂ ++ c₂
    = ext_get_or 0 (l₁ ++ c₁) (l₂ ++ c₂) (omega (arith, length-append l₁ c₁, length-append l₂ c₂))
    (λ i k. sym (spelled_at w l₁ c₁ S i (omega (arith, length-append l₁ c₁))) ∙ spelled_at w l₂ c₂ T i (omega (arith, length-append l₁ c₁))) in (
      sym (take-append_seam l₁ c₁) ∙ ap (λ (n : ℕ). take n (l₁ ++ c₁)) e ∙ ap (take (length l₂)) whole ∙ take-append_seam l₂ c₂,
      sym (drop-append_seam l₁ c₁) ∙ ap (λ (n : ℕ). drop n (l₁ ++ c₁)) e ∙ ap (drop (length l₂)) whole ∙ drop-append_seam l₂ c₂,
    )

-- a sequence has at most one tidy spelling
pub tidy-unique : (w : ℕ → ℕ) (l₁ c₁ l₂ c₂ : List ℕ) → Tidy w l₁ c₁ → Tidy w l₂ c₂ → (l₁ ≡ l₂) × (c₁ ≡ c₂)
tidy-unique w l₁ c₁ l₂ c₂ S T =
    let a = S.shortest_cycle l₂ c₂ T.spells in
    let b = T.shortest_cycle l₁ c₁ S.spells in
    let e : length c₁ ≡ length c₂ = omega arith in
    let c = S.shortest_lead l₂ c₂ T.spells (sym e) in
    let d = T.shortest_lead l₁ c₁ S.spells e in
    spelling-unique w l₁ c₁ l₂ c₂ S.spells T.spells (omega arith) e

-- ---- the shortest cycle

pub first-ge : (k : ℕ) (f : Set) (a : ℕ) → a ≤ first k f a
unfolding first
first-ge zero f a = omega arith
first-ge (suc k) f a = bif (f a) (λ t. rw (t, first) (omega arith)) (λ t. rw (t, first) (omega (arith, first-ge k f (suc a))))

module _ (lead cycle : List ℕ) (repeats : 0 < length cycle) where
  abbrev w : ℕ → ℕ
  w = letters lead cycle

  own : Repeats w (length lead) (length cycle)
  own = letters-again lead cycle repeats

  -- the letters of the cycle come again d steps on exactly if w repeats after d steps from the lead-in on
  again-at : (d : ℕ) → comes_again_lem cycle d ≡ true → (i : ℕ) → length lead ≤ i → i < length lead + length cycle → w (i + d) ≡ w i
  unfolding comes_again_lem
  again-at d t i l h =
      let j = i - length lead in
      let e : i + d ≡ length lead + (j + d) = omega arith in
      let f : length lead + j ≡ i = omega arith in
      ap w e ∙ letters-behind lead cycle repeats (j + d)
      ∙ eqb-true _ _ (every-at (length cycle) (λ x. eqb (letters [] cycle (x + d)) (letters [] cycle x)) t j (omega arith))
      ∙ sym (letters-behind lead cycle repeats j) ∙ ap w f

  again-all : (d : ℕ) → comes_again_lem cycle d ≡ true → (b i : ℕ) → i < b → length lead ≤ i → w (i + d) ≡ w i
  again-all d t zero i h l = absurd (omega arith)
  again-all d t (suc b) i h l =
      by_cases (dec_lt i (length lead + length cycle)) (again-at d t i l)
      (λ n. let j = i - length cycle in
      let e : i + d ≡ j + d + length cycle = omega arith in
      let f : j + length cycle ≡ i = omega arith in
      ap w e ∙ own (j + d) (omega arith) ∙ again-all d t b j (omega arith) (omega arith) ∙ sym (own j (omega arith)) ∙ ap w f)

  pub again-repeats : (d : ℕ) → comes_again_lem cycle d ≡ true → Repeats w (length lead) d
  again-repeats d t i l = again-all d t (suc i) i (omega arith) l

  pub repeats-again : (d : ℕ) → Repeats w (length lead) d → comes_again_lem cycle d ≡ true
  unfolding comes_again_lem
  repeats-again d R =
      every-all (length cycle) (λ x. eqb (letters [] cycle (x + d)) (letters [] cycle x)) (λ j l.
      let e : length lead + (j + d) ≡ length lead + j + d = omega arith in
      eq-eqb _ _ (sym (letters-behind lead cycle repeats (j + d)) ∙ ap w e ∙ R (length lead + j) (omega arith) ∙ letters-behind lead cycle repeats j))

  pub cycle-pos : 0 < cycle_length_lem cycle
  cycle-pos = unfold cycle_length_lem in omega (arith, first-ge (length cycle) (comes_again_lem cycle) 1)

  pub cycle-max : cycle_length_lem cycle ≤ length cycle
  unfolding cycle_length_lem
  cycle-max = first-le (length cycle) (comes_again_lem cycle) 1 (length cycle) repeats (repeats-again (length cycle) own)

  -- w repeats after the shortest cycle
  pub cycle-repeats : Repeats w (length lead) (cycle_length_lem cycle)
  unfolding cycle_length_lem
  cycle-repeats =
      again-repeats (first (length cycle) (comes_again_lem cycle) 1)
      (first-at (length cycle) (comes_again_lem cycle) 1 (length cycle) repeats (omega arith) (repeats-again (length cycle) own))

  -- and after no fewer steps, from wherever on
  pub cycle-least : (m p : ℕ) → 0 < p → Repeats w m p → cycle_length_lem cycle ≤ p
  unfolding cycle_length_lem
  cycle-least m p h R = first-le _ _ 1 p h (repeats-again p (repeats-sooner w _ _ m p repeats own R))

-- a cycle's letters come again after the whole cycle
pub own-again : (cycle : List ℕ) → 0 < length cycle → comes_again_lem cycle (length cycle) ≡ true
own-again cycle h = repeats-again [] cycle h (length cycle) (letters-again [] cycle h)

-- ---- the shortest lead-in

module _ (w : ℕ → ℕ) (p : ℕ) where
  pub shortened_same : (m : ℕ) → w m ≡ w (m + p) → shortened w p (suc m) ≡ shortened w p m
  shortened_same m e = unfold shortened in rw (eq-eqb (w m) (w (m + p)) e, shortened)

  pub shortened-other : (m : ℕ) → (w m ≡ w (m + p) → ⊥) → shortened w p (suc m) ≡ suc m
  shortened-other m n = unfold shortened in bif (eqb (w m) (w (m + p))) (λ t. absurd (n (eqb-true _ _ t))) (λ t. rw (t, shortened))

  pub shortened-max : (m : ℕ) → shortened w p m ≤ m
  unfolding shortened
  shortened-max zero = omega arith
  shortened-max (suc m) =
      by_cases (ℕ_discrete (w m) (w (m + p))) (λ e. omega (arith, shortened_same m e, shortened-max m)) (λ n. omega (arith, shortened-other m n))

  -- w repeats from there on
  pub shortened-repeats : (m : ℕ) → Repeats w m p → Repeats w (shortened w p m) p
  unfolding shortened
  shortened-repeats zero R = R
  shortened-repeats (suc m) R =
      by_cases (ℕ_discrete (w m) (w (m + p)))
      (λ e. rw (shortened_same m e) (shortened-repeats m (λ i l. by_cases (ℕ_discrete i m) (λ h. rw h (sym e)) (λ h. R i (omega arith)))))
      (λ n. rw (shortened-other m n) R)

  -- and from no earlier step on
  pub shortened-least : (m k : ℕ) → Repeats w k p → shortened w p m ≤ k
  unfolding shortened
  shortened-least zero k R = omega arith
  shortened-least (suc m) k R =
      by_cases (ℕ_discrete (w m) (w (m + p)))
      (λ e. omega (arith, shortened_same m e, shortened-least m k R))
      (λ n. by_cases (dec_lt m k) (λ l. omega (arith, shortened-other m n)) (λ l. absurd (n (sym (R m (omega arith))))))

-- ---- the tidy spelling of a word

module _ (lead cycle : List ℕ) (repeats : 0 < length cycle) where
  abbrev m : ℕ
  m = lead_length_lem lead cycle

  abbrev p : ℕ
  p = cycle_length_lem cycle

  pub lead-max : lead_length_lem lead cycle ≤ length lead
  lead-max = unfold lead_length_lem in shortened-max (letters lead cycle) (cycle_length_lem cycle) (length lead)

  lead-repeats : Repeats (letters lead cycle) m p
  lead-repeats = unfold lead_length_lem in shortened-repeats (letters lead cycle) p (length lead) (cycle-repeats lead cycle repeats)

  fits : m + p ≤ length (lead ++ cycle)
  fits = omega (arith, length-append lead cycle, lead-max, cycle-max lead cycle repeats)

  at : (i : ℕ) → i < m + p → get_or (lead ++ cycle) i 0 ≡ letters lead cycle i
  at i l = sym (letter-is lead cycle repeats i (omega (arith, lead-max, cycle-max lead cycle repeats)))

  lead_is : take m (lead ++ cycle) ≡ tidy_lead lead cycle
  lead_is = unfold tidy_lead in take-append-le m lead cycle lead-max

  pub tidy-lead-length : length (tidy_lead lead cycle) ≡ lead_length_lem lead cycle
  tidy-lead-length = ap length (sym lead_is) ∙ lead-length (letters lead cycle) m p (cycle-pos lead cycle repeats) lead-repeats (lead ++ cycle) fits at

  pub tidy-cycle-length : length (tidy_cycle lead cycle) ≡ cycle_length_lem cycle
  unfolding tidy_cycle
  tidy-cycle-length = cycle-length (letters lead cycle) m p (cycle-pos lead cycle repeats) lead-repeats (lead ++ cycle) fits at

  -- its letters are those of the first places
  pub tidy-letters : tidy_lead lead cycle ++ tidy_cycle lead cycle ≡ take (lead_length_lem lead cycle + cycle_length_lem cycle) (lead ++ cycle)
  unfolding tidy_cycle
  tidy-letters = sym (take-add m p (lead ++ cycle) ∙ ap (λ (l : List ℕ). l ++ take p (drop m (lead ++ cycle))) lead_is)

  pub tidy-spells : Spells (letters lead cycle) (tidy_lead lead cycle) (tidy_cycle lead cycle)
  unfolding tidy_cycle
  tidy-spells = rw lead_is at (repeats-spells (letters lead cycle) m p (cycle-pos lead cycle repeats) lead-repeats (lead ++ cycle) fits at)

  -- what is computed is the tidy spelling of the word's sequence
  pub tidied : Tidy (letters lead cycle) (tidy_lead lead cycle) (tidy_cycle lead cycle)
  unfolding lead_length_lem
  tidied = record {
    spells = tidy-spells;
    shortest_cycle = λ l c S. omega (arith, tidy-cycle-length, cycle-least lead cycle repeats (length l) (length c) S.repeats (spelled-repeats (letters lead cycle) l c S));
    shortest_lead = λ l c S e. omega (
      arith,
      tidy-lead-length,
      shortened-least (letters lead cycle) p (length lead) (length l) (rw (e ∙ tidy-cycle-length) at (spelled-repeats (letters lead cycle) l c S)),
    );
  }

-- ---- words and their tidy spellings

-- a word spells its own sequence
pub spells_own : (lead cycle : List ℕ) → 0 < length cycle → Spells (letters lead cycle) lead cycle
spells_own lead cycle h = record { repeats = h; agrees = λ i. refl }

-- 02: "Words are the same exactly when their tidy spellings are equal"
pub same-tidy : (l₁ c₁ l₂ c₂ : List ℕ) → 0 < length c₁ → 0 < length c₂
    → Agree l₁ c₁ l₂ c₂ ↔ ((tidy_lead l₁ c₁ ≡ tidy_lead l₂ c₂) × (tidy_cycle l₁ c₁ ≡ tidy_cycle l₂ c₂))
same-tidy l₁ c₁ l₂ c₂ h k = (
  λ a. tidy-unique (letters l₁ c₁) _ _ _ _ (tidied l₁ c₁ h) (rw (← fun_ext a) at (tidied l₂ c₂ k)),
  λ e i. sym ((tidied l₁ c₁ h).spells.agrees i) ∙ ap (λ (l : List ℕ). letters l (tidy_cycle l₁ c₁) i) e.0
      ∙ ap (λ (c : List ℕ). letters (tidy_lead l₂ c₂) c i) e.1 ∙ (tidied l₂ c₂ k).spells.agrees i,
)

-- 02: "tidying twice changes nothing further"
pub tidy-twice : (l c : List ℕ) → 0 < length c
    → (tidy_lead (tidy_lead l c) (tidy_cycle l c) ≡ tidy_lead l c) × (tidy_cycle (tidy_lead l c) (tidy_cycle l c) ≡ tidy_cycle l c)
tidy-twice l c h = let t = tidied l c h in (same-tidy (tidy_lead l c) (tidy_cycle l c) l c t.spells.repeats h).0 t.spells.agrees
