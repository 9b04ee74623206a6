-- The letters of a translated log are letters of the rule, so what is cut from them is a word of the rule.
use mathlib.Core.Path.{◌≡◌}
use mathlib.Core.Bool.{true, false, ◌||◌, not}
use mathlib.Core.List.Memᴰ
use mathlib.Core.List.{List, Memᴰ}
use Prim.Native.Nat.{ℕ, ◌%◌, ◌<◌}
use lib.Dec.{eqb, leb, ltb}
use lib.ListN.{length, take, drop, take-append-drop}
use borrow.Author.Tests.{leb-false}
use Rattle.sets.specs.Tests.{some_below}
use Rattle.sets.proofs.Bools.{or-fl, or-fr, not_f}
use Rattle.sets.proofs.Tests.{some-no}
use Rattle.sets.proofs.Lists.{tabulate-out}
use Rattle.theory.specs.Word.{WordOver}
use Rattle.event_spec.specs.Events.{line_count, line_byte, holds, first_line, event_letter, event_count, kind_at, drive_at, known, letters_of}
use Rattle.event_spec.specs.Translation.{faulty, faulty_table, has_unknown_lem, translation_row}
use Rattle.event_table.proofs.Ranges.{first_found}
use Rattle.event_table.proofs.Rows.{call_passes}

module _ (s : ℕ) (t : List ℕ) (sound : faulty_table s t ≡ false) where
  no-fault : some_below (line_count t) (faulty s t) ≡ false
  unfolding faulty_table
  no-fault = or-fl (some_below (line_count t) (faulty s t)) (not (eqb (length t % 5) 0) || ltb 64 (line_count t)) sound

  line-letter : (j : ℕ) → j < line_count t → line_byte t j 4 < s
  unfolding faulty
  line-letter j l =
      let e = some-no (line_count t) (faulty s t) no-fault j l in
      let f = or-fr (ltb (line_byte t j 1) (line_byte t j 0)) (ltb (line_byte t j 3) (line_byte t j 2) || leb s (line_byte t j 4)) e in
      leb-false s (line_byte t j 4) (or-fr (ltb (line_byte t j 3) (line_byte t j 2)) (leb s (line_byte t j 4)) f)

  -- an event in some line has a letter of the rule
  pub letter-below : (kind drive : ℕ) → some_below (line_count t) (holds t kind drive) ≡ true → event_letter t kind drive < s
  letter-below x y e = unfold event_letter first_line in line-letter (first_line t x y) (first_found (line_count t) (holds t x y) e).0

  pub letters-below : (log : List ℕ) → has_unknown_lem t log ≡ false → (a : ℕ) → Memᴰ a (letters_of t log) → a < s
  unfolding has_unknown_lem known letters_of
  letters-below log e a m =
      let r = tabulate-out (event_count log) (λ k. event_letter t (kind_at log k) (drive_at log k)) a m in
      let k : known t log r.0 ≡ true = not_f (known t log r.0) (some-no (event_count log) (λ k. not (known t log k)) e r.0 r.1) in
      rw r.2 (letter-below (kind_at log r.0) (drive_at log r.0) k)

-- what is cut from a list is in it
cut : (a b : ℕ) (xs : List ℕ) (x : ℕ) → Memᴰ x (take b (drop a xs)) → Memᴰ x xs
cut a b xs x m =
    let k = rw (take-append-drop b (drop a xs)) at (Memᴰ.append_left (drop b (drop a xs)) m) in
    rw (take-append-drop a xs) at (Memᴰ.append_right (take a xs) k)

-- a lead-in of b letters from place a on and a cycle of d letters from place c on, cut from the letters of a log that was translated under s letters
pub cut_word : (s : ℕ) (t log : List ℕ) (m : ℕ) → translation_row s t log m ≡ 0 → (a b c d : ℕ) → 0 < length (take d (drop c (letters_of t log)))
    → WordOver s (take b (drop a (letters_of t log))) (take d (drop c (letters_of t log)))
cut_word s t log m e a b c d h =
    let p = call_passes s t log m e in
    let below = letters-below s t p.table log p.events in
    record {
      repeats = h;
      lead_letters = λ x k. below x (cut a b (letters_of t log) x k);
      cycle_letters = λ x k. below x (cut c d (letters_of t log) x k);
    }
