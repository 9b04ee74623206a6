-- The words of a sheet from one of its bytes on.
use mathlib.Core.Path.{◌≡◌, refl, sym, ◌∙◌, ap}
use mathlib.Core.List.{List, [], ◌∷◌}
use Prim.Native.Nat.{ℕ, zero, suc, ◌+◌, ◌≤◌, ◌<◌}
use native.Mathlib.Omega.{arith}
use native.Mathlib.Numerals.{add-one}
use lib.ListN.{length, get_or, take, drop, length-drop, drop_of_length-le}
use lib.Seq.{drop-cons, drop-drop}
use Rattle.sheet_spec.specs.Words.{SheetWord, lone, spelled, words_in, words_of}

-- as many words as bytes are enough
words-enough : (k j : ℕ) (s : List ℕ) → length s ≤ k → length s ≤ j → words_in k s ≡ words_in j s
unfolding words_in
words-enough zero zero s h l = refl
words-enough zero (suc j) [] h l = refl
words-enough zero (suc j) (a ∷ s) h l = absurd (omega arith)
words-enough (suc k) zero [] h l = refl
words-enough (suc k) zero (a ∷ s) h l = absurd (omega arith)
words-enough (suc k) (suc j) [] h l = refl
words-enough (suc k) (suc j) (a ∷ []) h l = refl
words-enough (suc k) (suc j) (a ∷ (b ∷ s)) h l =
    let d = length-drop (a + b) s in
    ap (λ (ws : List SheetWord). spelled a b (take (a + b) s) ∷ ws) (words-enough k j (drop (a + b) s) (omega arith) (omega arith))

pub words-none : words_of [] ≡ []
unfolding words_of words_in
words-none = refl

pub words-lone : (a : ℕ) → words_of (a ∷ []) ≡ lone a ∷ []
unfolding words_of words_in
words-lone a = refl

pub words_more : (a b : ℕ) (s : List ℕ) → words_of (a ∷ (b ∷ s)) ≡ spelled a b (take (a + b) s) ∷ words_of (drop (a + b) s)
unfolding words_of words_in
words_more a b s =
    let d = length-drop (a + b) s in
    ap (λ (ws : List SheetWord). spelled a b (take (a + b) s) ∷ ws) (words-enough (suc (length s)) (length (drop (a + b) s)) (drop (a + b) s) (omega arith) (omega arith))

-- ---- from byte at on

module _ (s : List ℕ) (at : ℕ) where
  pub words-end : length s ≤ at → words_of (drop at s) ≡ []
  words-end h = ap words_of (drop_of_length-le s h) ∙ words-none

  pub words_last : at + 1 ≡ length s → words_of (drop at s) ≡ lone (get_or s at 0) ∷ []
  words_last e =
      ap words_of (drop-cons s at 0 (omega arith) ∙ ap (λ (l : List ℕ). get_or s at 0 ∷ l) (drop_of_length-le s {i = suc at} (omega arith)))
      ∙ words-lone (get_or s at 0)

  -- the word at byte at: its lengths and the letters that are there
  abbrev pub word_at : SheetWord
  word_at = spelled (get_or s at 0) (get_or s (at + 1) 0) (take (get_or s at 0 + get_or s (at + 1) 0) (drop (at + 2) s))

  pub words-next : at + 1 < length s → words_of (drop at s) ≡ word_at ∷ words_of (drop (at + 2 + (get_or s at 0 + get_or s (at + 1) 0)) s)
  words-next h =
      let a = get_or s at 0 in let b = get_or s (at + 1) 0 in
      let three : suc (at + 1) ≡ at + 2 = omega arith in
      let two : drop at s ≡ a ∷ (b ∷ drop (at + 2) s)
      = drop-cons s at 0 (omega arith) ∙ ap (λ (l : List ℕ). a ∷ l) (ap (λ (n : ℕ). drop n s) (sym (add-one at)) ∙ drop-cons s (at + 1) 0 h ∙ ap (λ (n : ℕ). b ∷ drop n s) three) in
      ap words_of two ∙ words_more a b (drop (at + 2) s) ∙ ap (λ (l : List ℕ). word_at ∷ words_of l) (drop-drop (a + b) (at + 2) s)
