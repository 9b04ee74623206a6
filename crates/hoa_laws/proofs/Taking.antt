-- Texts read one after the other.
use mathlib.Core.Path.{◌≡◌, refl, sym, ◌∙◌, ap}
use mathlib.Core.List.{List, [], ◌∷◌, ◌++◌, append_cancel_left, nil≢cons}
use mathlib.Core.Logic.{by_cases, ◌⊎◌, ⊎_elim}
use Prim.Native.Nat.{ℕ, ◌+◌, ◌-◌, ◌*◌, ◌≤◌, ◌<◌}
use native.Mathlib.Omega.{arith}
use native.Mathlib.Numerals.{add-one}
use native.Mathlib.Decide.{dec_lt, ℕ_discrete}
use lib.ListN.{length, get_or, drop, length-append, length-drop, drop_of_length-le}
use lib.Seq.{drop-cons}
use Rattle.slice_text.specs.Decimal.{digit, decimal, word}
use Rattle.slice_text.proofs.Decimal.{one-digit}
use Rattle.hoa_laws.specs.Took.{Ended, Took, TookOne, Stops, TookWord, TookDigits}
use Rattle.hoa_laws.proofs.Decimals.{first-digit, not-high, not-zero-led, not-larger, grown}
use Rattle.hoa_laws.proofs.Lines.{other-heads}

-- ---- what was found and what was not

module _ {text : List ℕ} {p : ℕ} {s : List ℕ} {r : ℕ} where
  pub took-none : r ≡ 0 → ((rest : List ℕ) → drop p text ≡ s ++ rest → ⊥) → Took text p s r
  took-none e h = record { found = λ l. absurd (omega arith); absent = λ z. h }

  pub took-some : 0 < r → r ≤ length text → drop p text ≡ s ++ drop r text → Took text p s r
  took-some l h e = record { found = λ z. (h, e); absent = λ z. absurd (omega arith) }

module _ {text : List ℕ} {p : ℕ} {May : ℕ → Type 0} {text_of : ℕ → List ℕ} {x r : ℕ} where
  pub one_none : r ≡ 0 → ((y : ℕ) → May y → (rest : List ℕ) → drop p text ≡ text_of y ++ rest → ⊥) → TookOne text p May text_of x r
  one_none e h = record { found = λ l. absurd (omega arith); absent = λ z. h }

  pub one-some : 0 < r → May x → r ≤ length text → drop p text ≡ text_of x ++ drop r text → TookOne text p May text_of x r
  one-some l m h e = record { found = λ z. (m, h, e); absent = λ z. absurd (omega arith) }

-- what follows a text that was read
pub after : (s : List ℕ) {d t rest : List ℕ} → d ≡ s ++ t → d ≡ s ++ rest → t ≡ rest
after s e f = append_cancel_left s _ _ (sym e ∙ f)

-- a text that was read ends later than it began
pub later : (text : List ℕ) (p : ℕ) (s : List ℕ) (r : ℕ) → 0 < length s → r ≤ length text → drop p text ≡ s ++ drop r text → p < r
later text p s r l h e = omega (arith, length-drop p text, length-drop r text, length-append s (drop r text), ap length e)

-- ---- bytes

module _ (text : List ℕ) (p : ℕ) where
  pub byte-here : p < length text → drop p text ≡ get_or text p 0 ∷ drop (p + 1) text
  byte-here h = rw (add-one p) (drop-cons text p 0 h)

  -- a byte that is no newline is not the last
  pub not_last : Ended text → p < length text → (get_or text p 0 ≡ 10 → ⊥) → p + 1 < length text
  not_last E h n = by_cases (ℕ_discrete p (length text - 1)) (λ e. absurd (n (ap (λ (k : ℕ). get_or text k 0) e ∙ E))) (λ m. omega arith)

  -- a number is not the last
  pub stops-inside : Stops (drop p text) → p < length text
  stops-inside S = by_cases (dec_lt p (length text)) (λ l. l) (λ n. absurd (nil≢cons (sym (drop_of_length-le text {i = p} (omega arith)) ∙ S.is)))

  module _ (x : ℕ) where
    pub byte_inside : Ended text → p < length text → get_or text p 0 ≡ x → (x ≡ 10 → ⊥) → p + 1 < length text
    byte_inside E h e n = not_last E h (λ f. n (sym e ∙ f))

    pub byte-other : p < length text → (get_or text p 0 ≡ x → ⊥) → Took text p (x ∷ []) 0
    byte-other h n = took-none refl (λ rest e. other-heads (sym (byte-here h) ∙ e) n)

    pub byte-taken : p < length text → get_or text p 0 ≡ x → Took text p (x ∷ []) (p + 1)
    byte-taken h e = took-some (omega arith) (omega arith) (byte-here h ∙ ap (λ (y : ℕ). y ∷ drop (p + 1) text) e)

-- ---- numbers

module _ (text : List ℕ) (p v : ℕ) where
  digits-none : {x r : ℕ} → r ≡ 0 → ((y : ℕ) → y ≤ 65536 → (rest : List ℕ) → Stops rest → decimal v ++ drop p text ≡ decimal y ++ rest → ⊥) → TookDigits text p v x r
  digits-none e h = record { found = λ l. absurd (omega arith); absent = λ z. h }

  module _ (x q : ℕ) (e : decimal v ++ drop p text ≡ decimal x ++ drop q text) where
    module _ (h : q < length text) where
      here : drop q text ≡ get_or text q 0 ∷ drop (q + 1) text
      here = byte-here text q h

      pub digits-stop : x ≤ 65536 → 0 < q → get_or text q 0 < 48 → TookDigits text p v x q
      digits-stop l g k =
          let S : Stops (drop q text) = record { byte = get_or text q 0; others = drop (q + 1) text; low = k; is = here } in
          record { found = λ z. (l, omega arith, S, e); absent = λ z. absurd (omega arith) }

      pub digits-high : 57 < get_or text q 0 → {y r : ℕ} → r ≡ 0 → TookDigits text p v y r
      digits-high g z = digits-none z (λ y l rest S f. not-high y S f x e (get_or text q 0) (drop (q + 1) text) here (omega arith) g)

      pub digits-zero : 48 ≤ get_or text q 0 → x ≡ 0 → {y r : ℕ} → r ≡ 0 → TookDigits text p v y r
      digits-zero g k z = digits-none z (λ y l rest S f. not-zero-led y S f x e (get_or text q 0) (drop (q + 1) text) here g k)

      pub digits-large : 48 ≤ get_or text q 0 → 65536 < x * 10 + (get_or text q 0 - 48) → {y r : ℕ} → r ≡ 0 → TookDigits text p v y r
      digits-large g k z = digits-none z (λ y l rest S f. not-larger y S f x e (get_or text q 0) (drop (q + 1) text) here g (omega arith))

      pub digits_more : 48 ≤ get_or text q 0 → get_or text q 0 ≤ 57 → (x ≡ 0 → ⊥) → decimal v ++ drop p text ≡ decimal (x * 10 + (get_or text q 0 - 48)) ++ drop (q + 1) text
      digits_more g l n =
          let k : 10 * x + (get_or text q 0 - 48) ≡ x * 10 + (get_or text q 0 - 48) = omega arith in
          grown x e (get_or text q 0) (drop (q + 1) text) here g l (omega arith) ∙ ap (λ (y : ℕ). decimal y ++ drop (q + 1) text) k

module _ {text : List ℕ} {p a : ℕ} (T : Took text p (32 ∷ []) a) where
  word_none : {x r : ℕ} → r ≡ 0 → ((y : ℕ) → y ≤ 65536 → (rest : List ℕ) → Stops rest → drop p text ≡ 32 ∷ (decimal y ++ rest) → ⊥) → TookWord text p x r
  unfolding word
  word_none e h = record { found = λ l. absurd (omega arith); absent = λ z. h }

  pub word-no-blank : a ≡ 0 → {x r : ℕ} → r ≡ 0 → TookWord text p x r
  word-no-blank z e = word_none e (λ y l rest S f. T.absent z (decimal y ++ rest) f)

  module _ (l : 0 < a) where
    blank : drop p text ≡ 32 ∷ drop a text
    blank = (T.found l).1

    module _ (h : a < length text) where
      pub word-no-digit : (get_or text a 0 < 48) ⊎ (57 < get_or text a 0) → {x r : ℕ} → r ≡ 0 → TookWord text p x r
      word-no-digit n e = word_none e (λ y m rest S f.
          let g : drop a text ≡ decimal y ++ rest = after (32 ∷ []) blank f in
          let d = first-digit y in
          let k : get_or text a 0 ∷ drop (a + 1) text ≡ d.0 ∷ (d.1 ++ rest) = sym (byte-here text a h) ∙ g ∙ ap (λ (s : List ℕ). s ++ rest) d.4 in
          let j : get_or text a 0 ≡ d.0 = cc in
          ⊎_elim (λ i. omega (arith, d.2)) (λ i. omega (arith, d.3)) n)

      pub word-digits : 48 ≤ get_or text a 0 → get_or text a 0 ≤ 57 → {x r : ℕ} → TookDigits text (a + 1) (get_or text a 0 - 48) x r → TookWord text p x r
      unfolding word
      word-digits g k {x} {r} D =
          let c : digit (get_or text a 0 - 48) ≡ get_or text a 0 = omega arith in
          let w : decimal (get_or text a 0 - 48) ++ drop (a + 1) text ≡ drop a text =
          ap (λ (s : List ℕ). s ++ drop (a + 1) text) (one-digit (get_or text a 0 - 48) (omega arith)) ∙ ap (λ (y : ℕ). y ∷ drop (a + 1) text) c ∙ sym (byte-here text a h) in
          record {
            found = λ z. let f = D.found z in (f.0, f.1, f.2, blank ∙ ap (λ (s : List ℕ). 32 ∷ s) (sym w ∙ f.3));
            absent = λ z y m rest S f. D.absent z y m rest S (w ∙ after (32 ∷ []) blank f);
          }
