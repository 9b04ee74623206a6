-- The listing as it is computed is that of any lists of the rule's reachable macrostates and transitions.
use mathlib.Core.Path.{◌≡◌, refl, sym, ◌∙◌, ap}
use mathlib.Core.Logic.{by_cases}
use mathlib.Core.List.{List, ◌++◌}
use Prim.Native.Nat.{ℕ, zero, suc, ◌≤◌, ◌<◌}
use native.Mathlib.Omega.{arith}
use native.Mathlib.Decide.{dec_lt}
use lib.ListN.{length, take, drop}
use lib.Seq.{take-append_seam, drop-append_seam}
use Rattle.theory.specs.Table.{ListsReachable}
use Rattle.theory.specs.TableComputed.{macrostates, transitions}
use Rattle.file_spec.specs.File.{NamedRule, rule_in, named_in}
use Rattle.file_spec.specs.Rows.{file_row, file_rows_lem}
use Rattle.refusals.specs.Rows.{Check, number_of, refusal_at, first_row}
use Rattle.refusals.proofs.Rows.{first-row-iff, refusal-at, first-left, first-right}
use Rattle.file_read.proofs.FileRows.{file-numbered, accepted-passing}
use Rattle.build_lists.specs.Room.{room_of_lem}
use Rattle.build.specs.Built.{room_rows, room_row, built_by, row_from, built_from, build_row}
use Rattle.build.proofs.ByLists.{codes_same, moves-same}
use Rattle.build.proofs.RoomRows.{row-codes}
use Rattle.listing_lines_spec.specs.Lines.{refused_line}
use Rattle.listing_spec.specs.Listing.{text_by, Printed}
use Rattle.listing_spec.specs.Computed.{answer_text, listing_of}
use Rattle.listing_spec.proofs.Listed.{long-text, short-text}

-- the number of a row is that of its refusal
row-number : (cs : List Check) (k : ℕ) → first_row cs ≡ suc k → number_of (refusal_at k) ≡ suc k
row-number cs k e = let a = (first-row-iff cs (suc k) (omega arith)).0 e in ap number_of (refusal-at a.row.refusal k a.number) ∙ a.number

-- by the row that the build's answer goes by
answer-text : (k : ℕ) (r : NamedRule) → ((j : ℕ) → k ≡ suc j → number_of (refusal_at j) ≡ suc j) → answer_text (built_by k (macrostates r.rule) (transitions r.rule)) r ≡ text_by k r (macrostates r.rule) (transitions r.rule)
unfolding answer_text built_by text_by
answer-text zero r n = refl
answer-text (suc k) r n = ap refused_line (n k refl)

refused-by : (k : ℕ) (r : NamedRule) (codes moves : List ℕ) → text_by (suc k) r codes moves ≡ refused_line (suc k)
unfolding text_by
refused-by k r codes moves = refl

module _ (f : List ℕ) (short : length f ≤ 4096) where
  row-text : listing_of f ≡ text_by (build_row f 512 4096) (named_in f) (macrostates (rule_in f)) (transitions (rule_in f))
  unfolding built_from row_from
  row-text = short-text f short ∙ answer-text (build_row f 512 4096) (named_in f)
      (row-number (file_rows_lem f ++ room_rows (macrostates (rule_in f)) (transitions (rule_in f)) 512 4096))

  refused-listing : (k : ℕ) → file_row f ≡ suc k → listing_of f ≡ refused_line (suc k)
  unfolding row_from file_row
  refused-listing k e = let row : suc k ≡ build_row f 512 4096 = first-left (file_rows_lem f) _ (suc k) (λ z. omega arith) (sym e) in
      row-text ∙ ap (λ (j : ℕ). text_by j (named_in f) (macrostates (rule_in f)) (transitions (rule_in f))) (sym row) ∙ refused-by k (named_in f) (macrostates (rule_in f)) (transitions (rule_in f))

  module _ (e : file_row f ≡ 0) (codes moves : List ℕ) (L : ListsReachable (rule_in f) codes moves) where
    accepted-text : listing_of f ≡ text_by (room_row (macrostates (rule_in f)) (transitions (rule_in f)) 512 4096) (named_in f) (macrostates (rule_in f)) (transitions (rule_in f))
    unfolding row_from room_row file_row
    accepted-text = row-text
        ∙ ap (λ (j : ℕ). text_by j (named_in f) (macrostates (rule_in f)) (transitions (rule_in f)))
        (first-right (file_rows_lem f) (room_rows (macrostates (rule_in f)) (transitions (rule_in f)) 512 4096) (file-numbered f) e)

    same_codes : codes ≡ macrostates (rule_in f)
    same_codes = codes_same (rule_in f) (accepted-passing f e) codes moves L

    -- more than 512 macrostates: 17, by the codes alone
    crowded : 512 < length (macrostates (rule_in f)) → listing_of f ≡ text_by (room_row codes moves 512 4096) (named_in f) codes moves
    unfolding room_of_lem
    crowded big =
        let computed : room_row (macrostates (rule_in f)) (transitions (rule_in f)) 512 4096 ≡ 17 = row-codes (macrostates (rule_in f)) (transitions (rule_in f)) 512 4096 big in
        let given : room_row codes moves 512 4096 ≡ 17 = row-codes codes moves 512 4096 (rw same_codes big) in
        accepted-text ∙ ap (λ (j : ℕ). text_by j (named_in f) (macrostates (rule_in f)) (transitions (rule_in f))) computed
        ∙ refused-by 16 (named_in f) (macrostates (rule_in f)) (transitions (rule_in f))
        ∙ sym (ap (λ (j : ℕ). text_by j (named_in f) codes moves) given ∙ refused-by 16 (named_in f) codes moves)

    roomy : length (macrostates (rule_in f)) ≤ 512 → listing_of f ≡ text_by (room_row codes moves 512 4096) (named_in f) codes moves
    roomy few = let m = moves-same (rule_in f) (accepted-passing f e) codes moves L (omega arith) in rw (same_codes, m) accepted-text

    listing-by-lists : listing_of f ≡ text_by (room_row codes moves 512 4096) (named_in f) codes moves
    listing-by-lists = by_cases (dec_lt 512 (length (macrostates (rule_in f)))) crowded (λ few. roomy (omega arith))

pub printed : (f : List ℕ) → Printed f (listing_of f)
printed f = record { long = long-text f; refused = refused-listing f; by_lists = listing-by-lists f }

-- the text at the start of a slice, and the rest as lent
pub left_by : (text old new : List ℕ) (r : ℕ) → r ≡ length text → new ≡ text ++ drop (length text) old → (take r new ≡ text) × (drop r new ≡ drop r old)
left_by text old new r e w = rw (w, e) (take-append_seam text (drop (length text) old), drop-append_seam text (drop (length text) old))
