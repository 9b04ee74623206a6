-- 02, M-100: "Write a built table as such a text", "The text must read back .. to the same numbers, flags .. and transitions, packed as built".
use mathlib.Core.Path.{◌≡◌, refl, sym, ◌∙◌, ap}
use mathlib.Core.List.{List, ◌++◌}
use Prim.Native.Nat.{ℕ, zero, suc, ◌≤◌}
use native.Mathlib.Omega.{arith}
use borrow.Author.Tests.{ltb-false}
use lib.Dec.{ltb}
use lib.ListN.{length, take, drop, length-take}
use lib.Seq.{take-append_seam}
use Rattle.std.specs.Prelude.{Result, Ok}
use Rattle.refusals.specs.declared.Refusal.{Refusal}
use Rattle.refusals.proofs.Rows.{answer-passes, first-parts, first-pass}
use Rattle.theory.specs.Table.{ListsReachable}
use Rattle.theory.specs.TableComputed.{macrostates, transitions}
use Rattle.file_spec.specs.File.{rule_in}
use Rattle.file_spec.specs.Rows.{file_row, file_rows_lem}
use Rattle.file_read.proofs.FileRows.{file-numbered, accepted-passing}
use Rattle.file_write_spec.specs.Written.{after}
use Rattle.codes.specs.Bytes.{bytes_of_all}
use Rattle.table_lent.specs.Lent.{Lent, in_words, in_bytes_lem, table_row_lem}
use Rattle.table_rows.specs.Passed.{Passed}
use Rattle.listing_lines_spec.specs.Lines.{initial_at}
use Rattle.hoa_spec.specs.Text.{flags_of, text_of}
use Rattle.hoa_write.specs.Written.{write_rows, write_row, file_text, hoa_written, hoa_after, bound}
use Rattle.hoa_write.proofs.Served.{bound-served}
use Rattle.hoa_spec.specs.declared.TableSizes.{TableSizes}
use Rattle.hoa_spec.specs.Reading.{ReadBack}
use Rattle.hoa_laws.proofs.Theorems.{reads-back}
use Rattle.build_lists.specs.Room.{codes_room}
use Rattle.build_lists.proofs.Room.{room-cap}
use Rattle.build.specs.declared.Counts.{Counts}
use Rattle.build.specs.Built.{room_rows, built_by, row_from, built_from, build_row}
use Rattle.build.specs.Entry.{TableBuilt}
use Rattle.build.proofs.ByLists.{codes_same, moves-same}
use Rattle.agreements.proofs.BuiltTables.{built-passes, codes-in-bytes, transitions-in-bytes, built-served-bytes}

-- what a served writer leaves, by its text
served-slice : (k : ℕ) (text old : List ℕ) → k ≡ 0 → take (length text) (after k text old) ≡ text
unfolding after
served-slice k text old e = rw (e, take-append_seam text (drop (length text) old))

-- The writer serves the bytes of a table, each code and transition as 8, with a slice of the bound, and what it wrote is read back to the table's numbers,
-- flags and transitions.
abbrev pub RoundTrip : List ℕ → List ℕ → List ℕ → Type 0
RoundTrip f codes moves =
    (old new : List ℕ) (v : Result ℕ Refusal)
    → v ≡ hoa_written f (in_bytes_lem (bytes_of_all codes)) (in_bytes_lem (bytes_of_all moves)) (length old)
    → new ≡ hoa_after f (in_bytes_lem (bytes_of_all codes)) (in_bytes_lem (bytes_of_all moves)) old
    → bound (length codes) (length moves) ≤ length old
    → (m : ℕ) × (v ≡ Ok m)
    × ((flags ts flags' ts' : List ℕ) (a : Result TableSizes Refusal) → ReadBack (take m new) flags ts a flags' ts' → length codes ≤ length flags → length moves ≤ length ts
    → (a ≡ Ok record { macrostates = length codes; transitions = length moves })
    × (flags' ≡ flags_of (initial_at (rule_in f).initial) codes ++ drop (length codes) flags)
    × (ts' ≡ moves ++ drop (length moves) ts))

-- any lists of the reachable macrostates and transitions of a file's rule, within the room that any slice counts for
module _ (f codes moves : List ℕ) (e : file_row f ≡ 0) (L : ListsReachable (rule_in f) codes moves) (few : length codes ≤ 65536) where
  same : codes ≡ macrostates (rule_in f)
  same = codes_same (rule_in f) (accepted-passing f e) codes moves L

  room : length (macrostates (rule_in f)) ≤ 65536
  room = rw same at few

  same-moves : moves ≡ transitions (rule_in f)
  same-moves = moves-same (rule_in f) (accepted-passing f e) codes moves L room

  passes : Passed (rule_in f).s codes moves
  passes = rw (same, same-moves) (built-passes (rule_in f) (accepted-passing f e) room)

  abbrev code_bytes : Lent
  code_bytes = in_bytes_lem (bytes_of_all codes)

  abbrev move_bytes : Lent
  move_bytes = in_bytes_lem (bytes_of_all moves)

  code-numbers : code_bytes.numbers ≡ codes
  unfolding in_words
  code-numbers = rw (same, codes-in-bytes (rule_in f) (accepted-passing f e) room)

  move-numbers : move_bytes.numbers ≡ moves
  unfolding in_words
  move-numbers = rw (same-moves, transitions-in-bytes (rule_in f) (accepted-passing f e) room)

  row-15 : table_row_lem (rule_in f).s code_bytes move_bytes ≡ 0
  row-15 = rw (same, same-moves) (built-served-bytes (rule_in f) (accepted-passing f e) room)

  text_is : file_text f code_bytes move_bytes ≡ text_of (rule_in f).s (rule_in f).initial codes moves
  text_is = rw (code-numbers, move-numbers)

  pub table-round : RoundTrip f codes moves
  unfolding hoa_written hoa_after write_row
  table-round old new v w n h =
      let P = (accepted-passing f e).formed in
      let text = text_of (rule_in f).s (rule_in f).initial codes moves in
      let row : write_row f code_bytes move_bytes (length old) ≡ 0 = bound-served f code_bytes move_bytes (length old) e row-15 (rw (code-numbers, move-numbers) h) in
      let long : v ≡ Ok (length text)
      = w ∙ answer-passes (write_rows f code_bytes move_bytes (length old)) (length (file_text f code_bytes move_bytes)) row ∙ ap (λ (t : List ℕ). Ok (length t)) text_is in
      let front : take (length text) new ≡ text = ap (take (length text)) n
      ∙ ap (λ (t : List ℕ). take (length t) (after (write_row f code_bytes move_bytes (length old)) (file_text f code_bytes move_bytes) old)) (sym text_is)
      ∙ served-slice _ (file_text f code_bytes move_bytes) old row ∙ text_is in (
        length text,
        long,
        λ flags ts flags' ts' a R g k.
            reads-back (rule_in f).s (rule_in f).initial codes moves P.some_letter P.few_letters (omega (arith, P.initial_state, P.few_states)) passes (rw front at R) g k,
      )

-- ---- what a build leaves

from-table : (k : ℕ) (codes moves : List ℕ) (n : Counts) → Ok n ≡ built_by k codes moves → (k ≡ 0) × (n.macrostates ≡ length codes)
unfolding built_by
from-table zero codes moves n e = (refl, cc)
from-table (suc k) codes moves n e = cc

module _ (f xs zs ys ws : List ℕ) (n : Counts) (B : TableBuilt f xs zs (Ok n) ys ws) where
  counted : (build_row f (length xs) (length zs) ≡ 0) × (n.macrostates ≡ length (macrostates (rule_in f)))
  unfolding built_from
  counted = from-table (build_row f (length xs) (length zs)) (macrostates (rule_in f)) (transitions (rule_in f)) n B.answer

  passed : (file_row f ≡ 0) × (length (macrostates (rule_in f)) ≤ codes_room (length xs))
  unfolding row_from file_row room_rows
  passed =
      let r = first-parts (file_rows_lem f) _ (file-numbered f) counted.0 in
      (r.0, ltb-false (codes_room (length xs)) (length (macrostates (rule_in f))) (first-pass (ltb (codes_room (length xs)) (length (macrostates (rule_in f)))) _ _ r.1).0)

  small : length (take n.macrostates ys) ≤ 65536
  small = omega (arith, length-take n.macrostates ys, counted.1, passed.1, room-cap 65536 (length xs))

  pub built-round : RoundTrip f (take n.macrostates ys) (take n.transitions ws)
  built-round = table-round f (take n.macrostates ys) (take n.transitions ws) passed.0 (B.lists n refl) small
