-- The sameness of words: the loop over the steps, the answer of each path, and what it means.
use mathlib.Core.Path.{◌≡◌, refl, sym, ◌∙◌, ap}
use mathlib.Core.Logic.{◌↔◌}
use mathlib.Core.Bool.{Bool, true, false, false≢true}
use mathlib.Core.List.{List, ◌++◌}
use Prim.Native.Nat.{ℕ, zero, suc, ◌+◌, ◌<◌}
use native.Mathlib.Omega.{arith}
use native.Mathlib.Numerals.{add-one}
use lib.Dec.{eqb}
use borrow.Author.Tests.{eq-eqb, ne_eqb}
use Rattle.sets.specs.Tests.{every}
use Rattle.sets.proofs.Bools.{bif}
use Rattle.sets.proofs.Tests.{every-next, every-stop}
use Rattle.std.specs.Prelude.{Result, Ok, Err, ⊤}
use Rattle.refusals.specs.Rows.{Check, first_refusal}
use Rattle.refusals.specs.declared.Refusal.{Refusal}
use Rattle.refusals.proofs.Rows.{refusal-left, refusal-right, refusal-passes}
use Rattle.theory.specs.Word.{places, next_place_lem, letter_at_lem, place, letters}
use Rattle.word_rows.specs.Words.{length_rows, length_row_lem}
use Rattle.word_rows.proofs.Checks.{short-of, short-passed}
use Rattle.word_spelling_spec.specs.Spelling.{Agree}
use Rattle.word_spelling_spec.specs.SpellingComputed.{same_word, tidy_lead, tidy_cycle}
use Rattle.word_spelling_spec.proofs.Same.{same-word-iff}
use Rattle.word_spelling_spec.proofs.Tidied.{same-tidy}
use Rattle.word_same.specs.Same.{same_row, same_words_of, Compared}

-- ---- the loop over the steps

-- the words agree at the first i steps
abbrev pub AgreeTo : List ℕ → List ℕ → List ℕ → List ℕ → ℕ → Type 0
AgreeTo l₁ c₁ l₂ c₂ i = every i (λ x. eqb (letters l₁ c₁ x) (letters l₂ c₂ x)) ≡ true

-- the place of the next step
pub place-next : (l c : List ℕ) (i p : ℕ) → p ≡ place (next_place_lem l c) i → next_place_lem l c p ≡ place (next_place_lem l c) (i + 1)
place-next l c i p e = unfold place in ap (next_place_lem l c) e ∙ sym (ap (place (next_place_lem l c)) (add-one i))

module _ (l₁ c₁ l₂ c₂ : List ℕ) (i p q : ℕ) (e : p ≡ place (next_place_lem l₁ c₁) i) (f : q ≡ place (next_place_lem l₂ c₂) i) where
  pub step-agrees : letter_at_lem l₁ c₁ p ≡ letter_at_lem l₂ c₂ q → AgreeTo l₁ c₁ l₂ c₂ i → AgreeTo l₁ c₁ l₂ c₂ (i + 1)
  step-agrees g t =
      every-next i (λ x. eqb (letters l₁ c₁ x) (letters l₂ c₂ x)) t (eq-eqb _ _ (ap (letter_at_lem l₁ c₁) (sym e) ∙ g ∙ ap (letter_at_lem l₂ c₂) f))

  pub step-differs : i < places l₁ c₁ + places l₂ c₂ → (letter_at_lem l₁ c₁ p ≡ letter_at_lem l₂ c₂ q → ⊥) → same_word l₁ c₁ l₂ c₂ ≡ false
  unfolding same_word
  step-differs h n =
      every-stop (places l₁ c₁ + places l₂ c₂) (λ x. eqb (letters l₁ c₁ x) (letters l₂ c₂ x)) i h
      (ne_eqb _ _ (λ g. n (ap (letter_at_lem l₁ c₁) e ∙ g ∙ sym (ap (letter_at_lem l₂ c₂) f))))

pub steps-end : (l₁ c₁ l₂ c₂ : List ℕ) (i : ℕ) → i ≡ places l₁ c₁ + places l₂ c₂ → AgreeTo l₁ c₁ l₂ c₂ i → same_word l₁ c₁ l₂ c₂ ≡ true
steps-end l₁ c₁ l₂ c₂ i e t = unfold same_word in ap (λ (n : ℕ). every n (λ x. eqb (letters l₁ c₁ x) (letters l₂ c₂ x))) (sym e) ∙ t

-- ---- the answer

ok-same : {a b : Bool} → ◌≡◌ {A = Result Bool Refusal} (Ok a) (Ok b) → a ≡ b
ok-same e = cc

module _ (l₁ c₁ l₂ c₂ : List ℕ) where
  refused : (r : Refusal) → first_refusal (length_rows l₁ c₁ ++ length_rows l₂ c₂) ≡ Err r → Compared l₁ c₁ l₂ c₂ (Err r)
  unfolding same_words_of same_row
  refused r e = record { answered = rw e; meant = λ z. let p = sym e ∙ refusal-passes (length_rows l₁ c₁ ++ length_rows l₂ c₂) z in absurd cc }

  -- the first word is refused
  pub first-refused : (r : Refusal) → first_refusal (length_rows l₁ c₁) ≡ Err r → Compared l₁ c₁ l₂ c₂ (Err r)
  first-refused r e = refused r (refusal-left (length_rows l₁ c₁) (length_rows l₂ c₂) r e)

  then-second : first_refusal (length_rows l₁ c₁) ≡ Ok tt → first_refusal (length_rows l₁ c₁ ++ length_rows l₂ c₂) ≡ first_refusal (length_rows l₂ c₂)
  then-second e = refusal-right (length_rows l₁ c₁) (length_rows l₂ c₂) e

  -- the second word is refused
  pub second-refused : (r : Refusal) → first_refusal (length_rows l₁ c₁) ≡ Ok tt → first_refusal (length_rows l₂ c₂) ≡ Err r → Compared l₁ c₁ l₂ c₂ (Err r)
  second-refused r e f = refused r (then-second e ∙ f)

  module _ (one : first_refusal (length_rows l₁ c₁) ≡ Ok tt) (two : first_refusal (length_rows l₂ c₂) ≡ Ok tt) where
    agree-iff : (same_word l₁ c₁ l₂ c₂ ≡ true) ↔ Agree l₁ c₁ l₂ c₂
    agree-iff = same-word-iff l₁ c₁ l₂ c₂ (short-passed l₁ c₁ one).repeats (short-passed l₂ c₂ two).repeats

    same-answer : same_words_of l₁ c₁ l₂ c₂ ≡ Ok (same_word l₁ c₁ l₂ c₂)
    same-answer = unfold same_words_of in rw (then-second one ∙ two)

    pub told : Compared l₁ c₁ l₂ c₂ (Ok (same_word l₁ c₁ l₂ c₂))
    told = record { answered = sym same-answer; meant = λ z. (λ s. agree-iff.0 (ok-same s), λ a. ap Ok (agree-iff.1 a)) }

  -- two words that pass are answered the same exactly if they agree at every step
  pub same-iff : length_row_lem l₁ c₁ ≡ 0 → length_row_lem l₂ c₂ ≡ 0 → (same_words_of l₁ c₁ l₂ c₂ ≡ Ok true) ↔ Agree l₁ c₁ l₂ c₂
  unfolding length_row_lem
  same-iff one two =
      let p = refusal-passes (length_rows l₁ c₁) one in
      let q = refusal-passes (length_rows l₂ c₂) two in
      let i = agree-iff p q in
      let e = same-answer p q in
      (λ s. i.0 (ok-same (sym e ∙ s)), λ a. e ∙ ap Ok (i.1 a))

  -- 02: "Words are the same exactly when their tidy spellings are equal"
  pub same-iff-tidy : length_row_lem l₁ c₁ ≡ 0 → length_row_lem l₂ c₂ ≡ 0
      → (same_words_of l₁ c₁ l₂ c₂ ≡ Ok true) ↔ ((tidy_lead l₁ c₁ ≡ tidy_lead l₂ c₂) × (tidy_cycle l₁ c₁ ≡ tidy_cycle l₂ c₂))
  same-iff-tidy one two =
      let s = same-iff one two in
      let t = same-tidy l₁ c₁ l₂ c₂ (short-of l₁ c₁ one).repeats (short-of l₂ c₂ two).repeats in
      (λ x. t.0 (s.0 x), λ x. s.1 (t.1 x))
