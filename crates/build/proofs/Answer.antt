-- The answer of a build on a file, and what the slices then hold: the codes that are reached and the transitions, with demand 3. From any start condition.
use mathlib.Core.Path.{◌≡◌, refl, sym, ◌∙◌, ap, ap₂, subst}
use mathlib.Core.Bool.{Bool, true, false, ◌&&◌, not}
use mathlib.Core.List.{List, [], ◌∷◌}
use Prim.Native.Nat.{ℕ, zero, suc, ◌-◌, ◌≤◌}
use native.Mathlib.Omega.{arith}
use lib.ListN.{length, take, replicate}
use lib.Seq.{take-append_seam}
use Rattle.std.specs.Prelude.{Result, Ok, Err}
use Rattle.refusals.specs.declared.Refusal.{Refusal}
use Rattle.refusals.specs.Rows.{Check, number_of, first_row}
use Rattle.sets.specs.Tests.{Set}
use Rattle.sets.proofs.Bools.{bif, and_l, and_r, not_t}
use Rattle.refusals.proofs.Rows.{number-above, refusal-at, row-yes, row-no, first-left, first-right, first-parts}
use Rattle.theory.specs.Rule.{Rule}
use Rattle.theory.specs.Demand.{DemandFrom}
use Rattle.theory.specs.Passing.{Passing}
use Rattle.theory.specs.Table.{ListsFrom}
use Rattle.theory.specs.TableComputed.{macrostates_from, transitions_from}
use Rattle.theory_laws.proofs.Tables.{lists-from}
use Rattle.file_spec.specs.declared.Layout.{Layout}
use Rattle.endless_spec.specs.Endless.{TruthFrom}
use Rattle.file_spec.specs.File.{rule_in}
use Rattle.file_spec.specs.Reading.{read_of}
use Rattle.file_read.proofs.Answer.{served}
use Rattle.file_spec.specs.Rows.{file_row, file_rows_lem, layout_rows, trailer_rows, body_rows, name_rows, preface_rows}
use Rattle.file_spec.specs.RuleRows.{number_rows, list_rows, clause_rows, component_rows, formed_rows}
use Rattle.file_read.proofs.FileRows.{file-numbered, accepted-passing}
use Rattle.build.specs.declared.Counts.{Counts}
use Rattle.build.specs.Built.{room_row, built_by, refuses_room, room_after, slice_after, file_codes, file_moves, row_from, built_from, codes_after_from, transitions_after_from}
use Rattle.build.specs.Filling.{Filled, Made, FileFilled}
use Rattle.build.specs.Entry.{FileBuilt}
use Rattle.build.proofs.ByLists.{made-by-lists}
use Rattle.build.proofs.RoomRows.{room-few, room-kept}

-- ---- the rows of a file do not refuse for room

-- no row has a number of the kind
unfoldable pub none_of_lem : (ℕ → Bool) → List Check → Bool
none_of_lem kind [] = true
none_of_lem kind (c ∷ cs) = not (kind (number_of c.refusal)) && none_of_lem kind cs

pub first-other : (kind : ℕ → Bool) → kind 0 ≡ false → (cs : List Check) → none_of_lem kind cs ≡ true → kind (first_row cs) ≡ false
unfolding none_of_lem first_row
first-other kind z [] e = z
first-other kind z (c ∷ cs) e = bif c.applies
    (λ t. rw (row-yes c cs t) (not_t (kind (number_of c.refusal)) (and_l (not (kind (number_of c.refusal))) (none_of_lem kind cs) e)))
    (λ t. rw (row-no c cs t) (first-other kind z cs (and_r (not (kind (number_of c.refusal))) (none_of_lem kind cs) e)))

pub file-row-other : (f : List ℕ) → refuses_room (file_row f) ≡ false
unfolding file_row none_of_lem file_rows_lem body_rows preface_rows name_rows layout_rows trailer_rows number_rows list_rows formed_rows clause_rows component_rows
file-row-other f = first-other (λ k. refuses_room k) refl (file_rows_lem f) refl

-- ---- the answer and the slices

refused-by : (k : ℕ) (r : Refusal) (codes moves : List ℕ) → k ≡ number_of r → Err r ≡ built_by k codes moves
unfolding built_by
refused-by zero r codes moves e = let n = number-above r in absurd (omega arith)
refused-by (suc k) r codes moves e = ap Err (sym (refusal-at r k (sym e)))

-- a table is answered only where no row refuses
pub table-by : (k : ℕ) (codes moves : List ℕ) (n : Counts) → Ok n ≡ built_by k codes moves → (k ≡ 0) × (n.macrostates ≡ length codes) × (n.transitions ≡ length moves)
unfolding built_by
table-by zero codes moves n e = (refl, cc, cc)
table-by (suc k) codes moves n e = cc

front : (row : ℕ) (list lent : List ℕ) → row ≡ 0 → take (length list) (slice_after row list lent) ≡ list
unfolding room_after
front row list lent e = rw e (take-append_seam list (replicate (length lent - length list) 0))

module _ (start : Rule → Set) (f xs zs : List ℕ) where
  abbrev codes : List ℕ
  codes = file_codes start f

  abbrev moves : List ℕ
  moves = file_moves start f

  abbrev row : ℕ
  row = row_from start f (length xs) (length zs)

  -- a file that a row of the rule refuses
  pub filled-refused : (r : Refusal) → (file_row f ≡ number_of r) × (file_row f ≡ 0 → ⊥) → FileFilled start f xs zs (Err r) xs zs
  unfolding row_from file_row
  filled-refused r e =
      let k = number_of r in
      let n : k ≡ 0 → ⊥ = λ z. e.1 (e.0 ∙ z) in
      let same : k ≡ row = first-left (file_rows_lem f) _ k n (sym e.0) in
      let l : refuses_room k ≡ false = rw e.0 at (file-row-other f) in
      record {
        answer = rw (← same) (refused-by k r _ _ refl);
        codes_after = rw (← same) (room-kept (λ j. refuses_room j) k _ xs n l);
        moves_after = rw (← same) (room-kept (λ j. refuses_room j) k _ zs n l);
      }

  -- a file that no row of the rule refuses
  pub build-row : file_row f ≡ 0 → row ≡ room_row codes moves (length xs) (length zs)
  unfolding row_from room_row file_row
  build-row e = first-right (file_rows_lem f) _ (file-numbered f) e

  both-rows : row ≡ 0 → (file_row f ≡ 0) × (room_row codes moves (length xs) (length zs) ≡ 0)
  unfolding row_from room_row file_row
  both-rows e = first-parts (file_rows_lem f) _ (file-numbered f) e

-- ---- the rule of an accepted file

pub filled-served : (start : Rule → Set) (f : List ℕ) (l : Layout) → read_of f ≡ Ok l → (xs zs : List ℕ) (b : Result Counts Refusal) (ys ws : List ℕ)
    → Made (file_codes start f) (file_moves start f) xs zs b ys ws → FileFilled start f xs zs b ys ws
filled-served start f l p xs zs b ys ws M =
    subst (λ (k : ℕ). Filled k (file_codes start f) (file_moves start f) xs zs b ys ws) (sym (build-row start f xs zs (served f l p).row)) M

-- ---- the whole contract

module _ (start : Rule → Set) (words : Rule → List ℕ → List ℕ → Type 0) (sequences : Rule → (ℕ → ℕ) → Type 0)
    (meets : (r : Rule) → Passing r → length (macrostates_from r (start r)) ≤ 65536 → DemandFrom r (start r) (words r) (macrostates_from r (start r)) (transitions_from r (start r)))
    (tells : (r : Rule) → Passing r → (codes ts : List ℕ) → ListsFrom r (start r) codes ts → length codes ≤ 65536 → TruthFrom r (start r) (sequences r) codes ts)
    (f xs zs : List ℕ) (b : Result Counts Refusal) (ys ws : List ℕ) (F : FileFilled start f xs zs b ys ws) where
  abbrev r : Rule
  r = rule_in f

  -- the slices hold both lists of a rule that passes the checks, each up to its count
  record Held (n : Counts) : Type 0 where
    passing : Passing r
    few : length (file_codes start f) ≤ 65536
    codes : take n.macrostates ys ≡ file_codes start f
    moves : take n.transitions ws ≡ file_moves start f

  held : (n : Counts) → b ≡ Ok n → Held n
  held n e =
      let t = table-by (row_from start f (length xs) (length zs)) (file_codes start f) (file_moves start f) n (sym e ∙ F.answer) in
      let k = both-rows start f xs zs t.0 in
      record {
        passing = accepted-passing f k.0;
        few = room-few (file_codes start f) (file_moves start f) (length xs) (length zs) k.1;
        codes = ap₂ (λ (k : ℕ) (l : List ℕ). take k l) t.1 F.codes_after ∙ front _ (file_codes start f) xs t.0;
        moves = ap₂ (λ (k : ℕ) (l : List ℕ). take k l) t.2 F.moves_after ∙ front _ (file_moves start f) zs t.0;
      }

  listed : (n : Counts) → b ≡ Ok n → ListsFrom r (start r) (take n.macrostates ys) (take n.transitions ws)
  listed n e = let h = held n e in rw (h.codes, h.moves) (lists-from r h.passing (start r) h.few)

  demanded : (n : Counts) → b ≡ Ok n → DemandFrom r (start r) (words r) (take n.macrostates ys) (take n.transitions ws)
  demanded n e = let h = held n e in rw (h.codes, h.moves) (meets r h.passing h.few)

  told : (n : Counts) → b ≡ Ok n → TruthFrom r (start r) (sequences r) (take n.macrostates ys) (take n.transitions ws)
  told n e = let h = held n e in tells r h.passing _ _ (listed n e) (rw h.codes h.few)

  made : file_row f ≡ 0 → Made (file_codes start f) (file_moves start f) xs zs b ys ws
  made z = subst (λ (k : ℕ). Filled k (file_codes start f) (file_moves start f) xs zs b ys ws) (build-row start f xs zs z) F

  pub file-built : FileBuilt start words sequences f xs zs b ys ws
  unfolding built_from codes_after_from transitions_after_from
  file-built = record {
    answer = F.answer;
    codes_after = F.codes_after;
    moves_after = F.moves_after;
    by_lists = λ z codes moves L. made-by-lists r (accepted-passing f z) (start r) codes moves L xs zs b ys ws (made z);
    lists = listed;
    demand = demanded;
    never_two = λ n e. (demanded n e).unambiguous;
    truth = told;
  }
