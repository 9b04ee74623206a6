-- One event more: whether some line holds it, and its letter.
use mathlib.Core.Path.{◌≡◌, sym, ◌∙◌, ap}
use mathlib.Core.Bool.{true, false, not}
use mathlib.Core.List.{List, ◌++◌}
use Prim.Native.Nat.{ℕ, suc, ◌+◌, ◌*◌, ◌<◌}
use native.Mathlib.Omega.{arith}
use native.Mathlib.Nat.{zero-add}
use native.Mathlib.Numerals.{add-one}
use lib.ListN.{length, get_or, take, drop, set}
use lib.Seq.{take_all, paste-suc}
use lib.Bits.{bit_and}
use lib.Count.{count_trailing_zeros}
use Rattle.sets.specs.Tests.{some_below}
use Rattle.sets.specs.Masks.{mask}
use Rattle.sets.proofs.Bools.{bif, not_f}
use Rattle.sets.proofs.Tests.{some_at, some-no}
use Rattle.sets.proofs.Lists.{tabulate-at, length-tabulate}
use Rattle.event_spec.specs.Events.{line_count, holds, first_line, event_letter, event_count, kind_at, drive_at, known, letters_of}
use Rattle.event_spec.specs.Translation.{has_unknown_lem}
use Rattle.event_table.proofs.Ranges.{first_found}
use Rattle.event_table.specs.Masks.{Masks}
use Rattle.event_table.proofs.Meets.{meet, none_of, empty_of, least_first}
use Rattle.file_spec.proofs.Walks.{some_next}

module _ (t kinds drives log : List ℕ) (m : Masks t kinds drives) (k : ℕ) (lx : kind_at log k < 256) (ly : drive_at log k < 256) where
  -- the lines of event k, as the masks give them
  abbrev lines : ℕ
  lines = bit_and (get_or kinds (kind_at log k) 0) (get_or drives (drive_at log k) 0)

  lines_are : lines ≡ mask (line_count t) (holds t (kind_at log k) (drive_at log k))
  lines_are = meet t kinds drives m (kind_at log k) (drive_at log k) lx ly

  pub in-none : lines ≡ 0 → known t log k ≡ false
  in-none e = unfold known in none_of (line_count t) (holds t (kind_at log k) (drive_at log k)) (sym lines_are ∙ e)

  pub in_some : (lines ≡ 0 → ⊥) → known t log k ≡ true
  unfolding known
  in_some n = bif (known t log k) (λ e. e) (λ e. absurd (n (lines_are ∙ empty_of (line_count t) (holds t (kind_at log k) (drive_at log k)) e)))

  -- the least of them is the first line that holds the event
  pub least-line : known t log k ≡ true → count_trailing_zeros 64 lines ≡ first_line t (kind_at log k) (drive_at log k)
  unfolding known first_line
  least-line e = ap (count_trailing_zeros 64) lines_are ∙ least_first (line_count t) (holds t (kind_at log k) (drive_at log k)) m.lines e

  pub least-below : known t log k ≡ true → count_trailing_zeros 64 lines < line_count t
  unfolding known first_line
  least-below e = let p = least-line e in let r = (first_found (line_count t) (holds t (kind_at log k) (drive_at log k)) e).0 in omega arith

  -- so its letter stands there
  pub least-letter : known t log k ≡ true → k < event_count log → get_or t (5 * count_trailing_zeros 64 lines + 4) 0 ≡ get_or (letters_of t log) k 0
  unfolding letters_of event_letter
  least-letter e l =
      ap (λ (j : ℕ). get_or t (5 * j + 4) 0) (least-line e)
      ∙ sym (tabulate-at (event_count log) (λ z. event_letter t (kind_at log z) (drive_at log z)) 0 k l ∙ ap (λ (z : ℕ). event_letter t (kind_at log z) (drive_at log z)) (zero-add k))

-- ---- the loop over the events

pub unknown-here : (t log : List ℕ) (k : ℕ) → k < event_count log → known t log k ≡ false → has_unknown_lem t log ≡ true
unknown-here t log k l e = unfold has_unknown_lem in some_at (event_count log) (λ z. not (known t log z)) k l (ap not e)

pub known_next : (t log : List ℕ) (k : ℕ) → some_below k (λ z. not (known t log z)) ≡ false → known t log k ≡ true → some_below (k + 1) (λ z. not (known t log z)) ≡ false
known_next t log k h e = some_next k (λ z. not (known t log z)) h (ap not e)

pub known-all : (t log : List ℕ) (k : ℕ) → event_count log ≡ k → some_below k (λ z. not (known t log z)) ≡ false → has_unknown_lem t log ≡ false
known-all t log k e h = unfold has_unknown_lem in ap (λ (n : ℕ). some_below n (λ z. not (known t log z))) e ∙ h

pub known_at : (t log : List ℕ) (k : ℕ) → has_unknown_lem t log ≡ false → k < event_count log → known t log k ≡ true
known_at t log k h l = unfold has_unknown_lem in not_f (known t log k) (some-no (event_count log) (λ z. not (known t log z)) h k l)

pub letters-length : (t log : List ℕ) → length (letters_of t log) ≡ event_count log
letters-length t log = unfold letters_of in length-tabulate (event_count log) (λ k. event_letter t (kind_at log k) (drive_at log k)) 0

-- ---- the slice, with k letters written

pub put-letter : (new old : List ℕ) (k : ℕ) → k < length new → k < length old → set (take k new ++ drop k old) k (get_or new k 0) ≡ take (k + 1) new ++ drop (k + 1) old
put-letter new old k l h = rw (add-one k) (rw (zero-add k, zero-add (suc k)) at (paste-suc old 0 new k 0 (omega arith) l))

pub put_all : (new old : List ℕ) (k : ℕ) → length new ≡ k → take k new ++ drop k old ≡ new ++ drop k old
put_all new old k e = ap (λ (p : List ℕ). p ++ drop k old) (take_all k new (omega arith))
