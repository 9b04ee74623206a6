-- The rows of each call, test by test, and joined.
use mathlib.Core.Path.{◌≡◌, refl, sym, ◌∙◌}
use mathlib.Core.Bool.{true, false}
use mathlib.Core.List.{List, ◌++◌}
use Prim.Native.Nat.{ℕ, ◌≤◌, ◌<◌}
use lib.ListN.{length}
use borrow.Author.Tests.{le-leb, lt-leb, lt-ltb, le-ltb, eq-eqb, ne_eqb}
use Rattle.refusals.specs.Rows.{first_row}
use Rattle.refusals.proofs.Rows.{numbered, first-left, first-right, first-parts}
use Rattle.table_lent.specs.Lent.{Lent, table_rows_lem, table_row_lem}
use Rattle.live_spec.specs.declared.LiveCall.{LiveCall}
use Rattle.live_spec.specs.declared.LiveCall.TheVariants.{Start, Arrive, Withdraw, Mark, Return}
use Rattle.live_spec.specs.State.{state_length_lem, number_in, is_marked_lem}
use Rattle.live_spec.specs.Rows.{slice_rows, arrival_rows, log_rows, live_call_rows, live_call_row}

-- ---- 14

module _ (s : ℕ) (c : LiveCall) where
  pub letter-start : c ≡ Start → 0 ≡ first_row (arrival_rows s c)
  unfolding arrival_rows first_row
  letter-start e = rw e refl

  pub letter-withdraw : c ≡ Withdraw → 0 ≡ first_row (arrival_rows s c)
  unfolding arrival_rows first_row
  letter-withdraw e = rw e refl

  pub letter-mark : (m : ℕ) → c ≡ Mark m → 0 ≡ first_row (arrival_rows s c)
  unfolding arrival_rows first_row
  letter-mark m e = rw e refl

  pub letter-return : (m : ℕ) → c ≡ Return m → 0 ≡ first_row (arrival_rows s c)
  unfolding arrival_rows first_row
  letter-return m e = rw e refl

  pub letter-unknown : (a : ℕ) → c ≡ Arrive a → s ≤ a → 14 ≡ first_row (arrival_rows s c)
  unfolding arrival_rows first_row
  letter-unknown a e h = rw (e, le-leb s a h) refl

  pub letter_known : (a : ℕ) → c ≡ Arrive a → a < s → 0 ≡ first_row (arrival_rows s c)
  unfolding arrival_rows first_row
  letter_known a e h = rw (e, lt-leb s a h) refl

-- ---- 30 to 33

module _ (c : LiveCall) (state : List ℕ) where
  pub log-start : c ≡ Start → 0 ≡ first_row (log_rows c state)
  unfolding log_rows first_row
  log-start e = rw e refl

  pub log-full : (a : ℕ) → c ≡ Arrive a → 512 ≤ number_in state → 30 ≡ first_row (log_rows c state)
  unfolding log_rows first_row
  log-full a e h = rw (e, le-leb 512 (number_in state) h) refl

  pub log-free : (a : ℕ) → c ≡ Arrive a → number_in state < 512 → 0 ≡ first_row (log_rows c state)
  unfolding log_rows first_row
  log-free a e h = rw (e, lt-leb 512 (number_in state) h) refl

  pub log-none : c ≡ Withdraw → number_in state ≡ 0 → 31 ≡ first_row (log_rows c state)
  unfolding log_rows first_row
  log-none e h = rw (e, eq-eqb (number_in state) 0 h) refl

  pub log-some : c ≡ Withdraw → (number_in state ≡ 0 → ⊥) → 0 ≡ first_row (log_rows c state)
  unfolding log_rows first_row
  log-some e h = rw (e, ne_eqb (number_in state) 0 h) refl

  pub log-no-mark : (m : ℕ) → c ≡ Mark m → 15 < m → 32 ≡ first_row (log_rows c state)
  unfolding log_rows first_row
  log-no-mark m e h = rw (e, lt-ltb 15 m h) refl

  pub log-mark : (m : ℕ) → c ≡ Mark m → m ≤ 15 → 0 ≡ first_row (log_rows c state)
  unfolding log_rows first_row
  log-mark m e h = rw (e, le-ltb 15 m h) refl

  pub log-return : (m k : ℕ) → c ≡ Return m → k ≡ first_row (log_rows (Return m) state) → k ≡ first_row (log_rows c state)
  log-return m k e h = rw e h

module _ (m : ℕ) (state : List ℕ) where
  pub return-no-mark : 15 < m → 32 ≡ first_row (log_rows (Return m) state)
  unfolding log_rows first_row
  return-no-mark h = rw (lt-ltb 15 m h) refl

  pub return-unset : m ≤ 15 → is_marked_lem state m ≡ false → 33 ≡ first_row (log_rows (Return m) state)
  unfolding log_rows first_row
  return-unset h e = rw (le-ltb 15 m h, e) refl

  pub return-set : m ≤ 15 → is_marked_lem state m ≡ true → 0 ≡ first_row (log_rows (Return m) state)
  unfolding log_rows first_row
  return-set h e = rw (le-ltb 15 m h, e) refl

-- ---- 16

module _ (n : ℕ) (state : List ℕ) (room : ℕ) where
  pub state-short : length state < state_length_lem → 16 ≡ first_row (slice_rows n state room)
  unfolding slice_rows first_row
  state-short h = rw (lt-ltb (length state) state_length_lem h) refl

  pub set-short : state_length_lem ≤ length state → room < n → 16 ≡ first_row (slice_rows n state room)
  unfolding slice_rows first_row
  set-short h k = rw (le-ltb (length state) state_length_lem h, lt-ltb room n k) refl

  pub long-enough : state_length_lem ≤ length state → n ≤ room → 0 ≡ first_row (slice_rows n state room)
  unfolding slice_rows first_row
  long-enough h k = rw (le-ltb (length state) state_length_lem h, le-ltb room n k) refl

-- ---- all of them

module _ (c : LiveCall) (s : ℕ) (codes transitions : Lent) (state : List ℕ) (room : ℕ) where
  abbrev row : ℕ
  row = live_call_row c s codes transitions state room

  letters-numbered : (c : LiveCall) → numbered (arrival_rows s c) ≡ true
  unfolding numbered arrival_rows
  letters-numbered Start = refl
  letters-numbered (Arrive a) = refl
  letters-numbered Withdraw = refl
  letters-numbered (Mark m) = refl
  letters-numbered (Return m) = refl

  logs-numbered : (c : LiveCall) → numbered (log_rows c state) ≡ true
  unfolding numbered log_rows
  logs-numbered Start = refl
  logs-numbered (Arrive a) = refl
  logs-numbered Withdraw = refl
  logs-numbered (Mark m) = refl
  logs-numbered (Return m) = refl

  table-numbered : numbered (table_rows_lem s codes transitions) ≡ true
  unfolding numbered table_rows_lem
  table-numbered = refl

  pub letter-refuses : (k : ℕ) → (k ≡ 0 → ⊥) → k ≡ first_row (arrival_rows s c) → k ≡ row
  unfolding live_call_row live_call_rows
  letter-refuses k n e = first-left (arrival_rows s c) (table_rows_lem s codes transitions ++ (log_rows c state ++ slice_rows (length codes.numbers) state room)) k n e

  module _ (letter : first_row (arrival_rows s c) ≡ 0) where
    after-letter : row ≡ first_row (table_rows_lem s codes transitions ++ (log_rows c state ++ slice_rows (length codes.numbers) state room))
    unfolding live_call_row live_call_rows
    after-letter = first-right (arrival_rows s c) (table_rows_lem s codes transitions ++ (log_rows c state ++ slice_rows (length codes.numbers) state room)) (letters-numbered c) letter

    pub table-refuses : (k : ℕ) → (k ≡ 0 → ⊥) → k ≡ table_row_lem s codes transitions → k ≡ row
    unfolding table_row_lem
    table-refuses k n e = first-left (table_rows_lem s codes transitions) (log_rows c state ++ slice_rows (length codes.numbers) state room) k n e ∙ sym after-letter

    module _ (table : table_row_lem s codes transitions ≡ 0) where
      after_table : row ≡ first_row (log_rows c state ++ slice_rows (length codes.numbers) state room)
      unfolding table_row_lem
      after_table = after-letter ∙ first-right (table_rows_lem s codes transitions) (log_rows c state ++ slice_rows (length codes.numbers) state room) table-numbered table

      pub log-refuses : (k : ℕ) → (k ≡ 0 → ⊥) → k ≡ first_row (log_rows c state) → k ≡ row
      log-refuses k n e = first-left (log_rows c state) (slice_rows (length codes.numbers) state room) k n e ∙ sym after_table

      pub slice-answers : first_row (log_rows c state) ≡ 0 → (k : ℕ) → k ≡ first_row (slice_rows (length codes.numbers) state room) → k ≡ row
      slice-answers log k e = e ∙ sym (first-right (log_rows c state) (slice_rows (length codes.numbers) state room) (logs-numbered c) log) ∙ sym after_table

  -- ---- what a served call has passed

  pub parts : row ≡ 0 → (first_row (arrival_rows s c) ≡ 0) × (table_row_lem s codes transitions ≡ 0) × (first_row (log_rows c state) ≡ 0)
      × (first_row (slice_rows (length codes.numbers) state room) ≡ 0)
  unfolding live_call_row live_call_rows table_row_lem
  parts e =
      let (x, f) = first-parts (arrival_rows s c) (table_rows_lem s codes transitions ++ (log_rows c state ++ slice_rows (length codes.numbers) state room)) (letters-numbered c) e in
      let (y, g) = first-parts (table_rows_lem s codes transitions) (log_rows c state ++ slice_rows (length codes.numbers) state room) table-numbered f in
      let (z, h) = first-parts (log_rows c state) (slice_rows (length codes.numbers) state room) (logs-numbered c) g in
      (x, y, z, h)
