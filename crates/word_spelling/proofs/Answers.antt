-- The answer of each path of tidying.
use mathlib.Core.Path.{◌≡◌, refl, sym, ◌∙◌, ap}
use mathlib.Core.List.{List, ◌++◌}
use Prim.Native.Nat.{ℕ, zero, suc, ◌+◌, ◌≤◌, ◌<◌}
use native.Mathlib.Omega.{arith}
use lib.ListN.{length, take, drop, length-append}
use borrow.Author.Tests.{lt-ltb, le-ltb}
use Rattle.std.specs.Prelude.{Ok, Err}
use Rattle.refusals.specs.Rows.{number_of, row_of, first_refusal}
use Rattle.refusals.specs.declared.Refusal.{Refusal}
use Rattle.refusals.specs.declared.Refusal.TheVariants.{Slice}
use Rattle.refusals.proofs.Rows.{number-above, refusal-left, refusal-right, row-refusal, row-passes}
use Rattle.theory.specs.Word.{letters}
use Rattle.word_rows.specs.Words.{length_rows}
use Rattle.word_rows.proofs.Checks.{short-passed}
use Rattle.word_spelling_spec.specs.SpellingComputed.{cycle_length_lem, shortened, lead_length_lem, tidy_lead, tidy_cycle}
use Rattle.word_spelling_spec.proofs.Tidied.{cycle-max, lead-max, tidied, tidy-letters, tidy-lead-length, tidy-cycle-length}
use Rattle.word_spelling.specs.Tidied.{tidy_letters, slice_rows, tidy_row, tidy_word_of, after, Tidied}

-- the lengths of the tidy spelling of a word that passes, as the code finds them
pub record Found (l c : List ℕ) (m p : ℕ) : Type 0 where
  pub passed : first_refusal (length_rows l c) ≡ Ok tt
  pub lead : m ≡ lead_length_lem l c
  pub cycle : p ≡ cycle_length_lem c
  pub lead-most : m ≤ length l
  pub cycle-most : p ≤ length c
  pub lead-short : length l ≤ 32
  pub cycle-short : length c ≤ 32

pub found : (l c : List ℕ) (m p : ℕ) → first_refusal (length_rows l c) ≡ Ok tt → p ≡ cycle_length_lem c → m ≡ shortened (letters l c) p (length l) → Found l c m p
unfolding lead_length_lem
found l c m p t e f =
    let s = short-passed l c t in
    let lead : m ≡ lead_length_lem l c = f ∙ ap (λ (x : ℕ). shortened (letters l c) x (length l)) e in
    record {
      passed = t;
      lead = lead;
      cycle = e;
      lead-most = omega (arith, lead-max l c s.repeats);
      cycle-most = omega (arith, cycle-max l c s.repeats);
      lead-short = s.lead-short;
      cycle-short = s.cycle-short;
    }

leaves : (k : ℕ) → 0 < k → (word old : List ℕ) → old ≡ after k word old
unfolding after
leaves zero p word old = absurd (omega arith)
leaves (suc k) p word old = refl

-- a refusal leaves the slice
after-refused : (r : Refusal) (word old : List ℕ) → old ≡ after (number_of r) word old
after-refused r word old = leaves (number_of r) (number-above r) word old

module _ (l c old : List ℕ) where
  refused : (r : Refusal) → first_refusal (length_rows l c ++ slice_rows l c (length old)) ≡ Err r → Tidied l c old old (Err r)
  unfolding tidy_word_of tidy_row after
  refused r e =
      let rows = length_rows l c ++ slice_rows l c (length old) in
      let k : tidy_row l c (length old) ≡ number_of r = sym (row-refusal rows) ∙ ap row_of e in
      record { answered = rw e; written = rw k (after-refused r (tidy_letters l c) old); meant = λ z. absurd (let n = number-above r in omega (arith, k, z)) }

  -- 12 and 13
  pub word-refused : (r : Refusal) → first_refusal (length_rows l c) ≡ Err r → Tidied l c old old (Err r)
  word-refused r e = refused r (refusal-left (length_rows l c) (slice_rows l c (length old)) r e)

  module _ (passed : first_refusal (length_rows l c) ≡ Ok tt) where
    repeats : 0 < length c
    repeats = (short-passed l c passed).repeats

    size : length (tidy_letters l c) ≡ lead_length_lem l c + cycle_length_lem c
    size = omega (arith, length-append (tidy_lead l c) (tidy_cycle l c), tidy-lead-length l c repeats, tidy-cycle-length l c repeats)

    then-slice : first_refusal (length_rows l c ++ slice_rows l c (length old)) ≡ first_refusal (slice_rows l c (length old))
    then-slice = refusal-right (length_rows l c) (slice_rows l c (length old)) passed

    -- 16
    pub slice-refused : length old < lead_length_lem l c + cycle_length_lem c → Tidied l c old old (Err Slice)
    unfolding slice_rows first_refusal
    slice-refused h = refused Slice (then-slice ∙ rw (lt-ltb (length old) (length (tidy_letters l c)) (omega (arith, size))))

    room : lead_length_lem l c + cycle_length_lem c ≤ length old → first_refusal (length_rows l c ++ slice_rows l c (length old)) ≡ Ok tt
    unfolding slice_rows first_refusal
    room h = then-slice ∙ rw (le-ltb (length old) (length (tidy_letters l c)) (omega (arith, size)))

    -- served
    pub served : (m p : ℕ) (new : List ℕ) → m ≡ lead_length_lem l c → p ≡ cycle_length_lem c → m + p ≤ length old
        → new ≡ take (m + p) (l ++ c) ++ drop (m + p) old → Tidied l c old new (Ok (record { lead = m; cycle = p }))
    unfolding tidy_word_of tidy_row after
    served m p new e f h w =
        let passes = room (omega arith) in
        let none : tidy_row l c (length old) ≡ 0 = row-passes (length_rows l c ++ slice_rows l c (length old)) passes in
        let s : m + p ≡ length (tidy_letters l c) = omega (arith, size) in
        let a : tidy_letters l c ≡ take (m + p) (l ++ c) = tidy-letters l c repeats ∙ rw (e, f) in
        let b = e ∙ sym (tidy-lead-length l c repeats) in
        let d = f ∙ sym (tidy-cycle-length l c repeats) in
        record { answered = rw passes (rw (b, d)); written = rw none (w ∙ rw (← a, s)); meant = λ z. tidied l c repeats }
