-- What the trimmed build answers is the M-104 table of the live calls, also in bytes, and a start on it is served.
use mathlib.Core.Path.{◌≡◌, refl, ◌∙◌}
use mathlib.Core.Bool.{true}
use mathlib.Core.List.{List, ◌++◌}
use Prim.Native.Nat.{ℕ, ◌≤◌}
use native.Mathlib.Omega.{arith}
use lib.ListN.{length, take, length-take}
use borrow.Author.Tests.{le-ltb}
use Rattle.sets.proofs.Lists.{mem-at}
use Rattle.refusals.specs.Rows.{first_row}
use Rattle.refusals.proofs.Rows.{numbered, first-right}
use Rattle.codes.specs.Bytes.{bytes_of_all}
use Rattle.file_spec.specs.File.{rule_in}
use Rattle.file_spec.specs.Rows.{file_row, file_rows_lem}
use Rattle.file_read.proofs.FileRows.{file-numbered, accepted-passing}
use Rattle.table_lent.specs.Lent.{Lent, in_words, in_bytes_lem, table_rows_lem, table_row_lem}
use Rattle.table_lent.proofs.Bytes.{bytes-lent}
use Rattle.table_rows.specs.Passed.{Passed}
use Rattle.table_rows.proofs.Passed.{passes}
use Rattle.agreements.proofs.TrimmedTables.{trimmed-passes}
use Rattle.build.specs.declared.Counts.{Counts}
use Rattle.std.specs.Prelude.{Ok}
use Rattle.build_trimmed.specs.Answers.{trimmed_of, trimmed_codes_after, trimmed_transitions_after}
use Rattle.build_trimmed.proofs.Answer.{rows, small, codes_are, transitions_are, answered-lists}
use Rattle.live_spec.specs.declared.LiveCall.TheVariants.{Start}
use Rattle.live_spec.specs.Called.{TrimmedTable}
use Rattle.live_spec.specs.Rows.{slice_rows, arrival_rows, log_rows, live_call_rows, live_row}
use Rattle.live_spec.specs.State.{state_length_lem}

rows-numbered : (s : ℕ) (codes transitions : Lent) → numbered (table_rows_lem s codes transitions) ≡ true
unfolding numbered table_rows_lem
rows-numbered s codes transitions = refl

slices-pass : (n : ℕ) (state : List ℕ) (room : ℕ) → state_length_lem ≤ length state → n ≤ room → first_row (slice_rows n state room) ≡ 0
unfolding slice_rows first_row
slices-pass n state room l k = rw (le-ltb (length state) state_length_lem l, le-ltb room n k) refl

-- a start on a table that row 15 passes, with slices that are long enough
start-row : (f : List ℕ) (codes transitions : Lent) (state : List ℕ) (room : ℕ) → file_row f ≡ 0 → table_row_lem (rule_in f).s codes transitions ≡ 0
    → state_length_lem ≤ length state → length codes.numbers ≤ room → live_row Start f codes transitions state room ≡ 0
unfolding live_row live_call_rows arrival_rows log_rows file_row table_row_lem
start-row f codes transitions state room e t l k =
    first-right (file_rows_lem f) (table_rows_lem (rule_in f).s codes transitions ++ slice_rows (length codes.numbers) state room) (file-numbered f) e
    ∙ first-right (table_rows_lem (rule_in f).s codes transitions) (slice_rows (length codes.numbers) state room) (rows-numbered (rule_in f).s codes transitions) t
    ∙ slices-pass (length codes.numbers) state room l k

module _ (f xs zs : List ℕ) (n : Counts) (e : Ok n ≡ trimmed_of f (length xs) (length zs)) where
  -- what both slices hold then, up to the counts
  abbrev codes : List ℕ
  codes = take n.macrostates (trimmed_codes_after f xs (length zs))

  abbrev transitions : List ℕ
  transitions = take n.transitions (trimmed_transitions_after f (length xs) zs)

  pub answered-trimmed : TrimmedTable (rule_in f) codes transitions
  answered-trimmed = record { room = small f xs zs n e; lists = answered-lists f xs zs n e }

  passed : Passed (rule_in f).s codes transitions
  passed = rw (codes_are f xs zs n e, transitions_are f xs zs n e) (trimmed-passes (rule_in f) (accepted-passing f (rows f xs zs n e).0) (small f xs zs n e))

  -- in bytes, each code and transition as 8 bytes, low byte first
  pub codes-lent : in_bytes_lem (bytes_of_all codes) ≡ in_words codes
  codes-lent = bytes-lent codes (λ i l. let h = passed.narrow _ (mem-at codes i l) in omega (arith, h))

  pub transitions-lent : in_bytes_lem (bytes_of_all transitions) ≡ in_words transitions
  transitions-lent = bytes-lent transitions (λ i l. let h = passed.source _ (mem-at transitions i l) in let k = passed.few in omega (arith, h, k))

  pub bytes-trimmed : TrimmedTable (rule_in f) (in_bytes_lem (bytes_of_all codes)).numbers (in_bytes_lem (bytes_of_all transitions)).numbers
  unfolding in_words
  bytes-trimmed = rw (codes-lent, transitions-lent) answered-trimmed

  -- a start on it is served
  pub start-served : (state : List ℕ) (room : ℕ) → state_length_lem ≤ length state → n.macrostates ≤ room → live_row Start f (in_bytes_lem (bytes_of_all codes)) (in_bytes_lem (bytes_of_all transitions)) state room ≡ 0
  unfolding in_words
  start-served state room l k =
      rw (codes-lent, transitions-lent)
      (start-row f (in_words codes) (in_words transitions) state room (rows f xs zs n e).0
      (passes (rule_in f).s (in_words codes) (in_words transitions) refl refl passed) l (let m = length-take n.macrostates (trimmed_codes_after f xs (length zs)) in omega (arith, m, k)))
