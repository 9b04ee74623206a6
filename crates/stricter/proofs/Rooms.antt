-- The rows and the rooms of the comparison, step by step.
use mathlib.Core.Path.{◌≡◌, refl, sym, ◌∙◌, ap, ap₂}
use mathlib.Core.Logic.{◌⊎◌, inl, inr, ⊎_elim}
use mathlib.Core.Bool.{Bool, true, false, ◌&&◌, not}
use mathlib.Core.List.{List, [], ◌∷◌, ◌++◌, append_assoc}
use Prim.Native.Nat.{ℕ, zero, suc, ◌-◌, ◌≤◌}
use native.Mathlib.Omega.{arith}
use lib.Dec.{eqb}
use borrow.Author.Tests.{eq-eqb, ne_eqb}
use lib.ListN.{length, take, replicate, length-append}
use lib.Seq.{take-append_seam}
use Rattle.std.specs.Prelude.{Result, Ok, Err, ⊤}
use Rattle.refusals.specs.Rows.{Check, number_of, refusal_at, row_of, first_refusal, first_row, check}
use Rattle.refusals.specs.declared.Refusal.{Refusal}
use Rattle.refusals.specs.declared.Refusal.TheVariants.{OtherLetters}
use Rattle.refusals.proofs.Rows.{number-above, row-yes, row-no, numbered, refusal-yes, refusal-no, row-refusal, refusal-passes, refused-row, refused-some, refusal-at, refusal-left, refusal-right}
use Rattle.sets.proofs.Bools.{bif, and_l, and_r, or_l}
use Rattle.file_spec.specs.Rows.{file_row, file_rows_lem, layout_rows, trailer_rows, body_rows, name_rows, preface_rows}
use Rattle.file_spec.specs.RuleRows.{number_rows, list_rows, clause_rows, component_rows, formed_rows}
use Rattle.theory.specs.Rule.{Rule}
use Rattle.theory.specs.TableComputed.{macrostates, transitions}
use Rattle.rejecting_spec.specs.RejectingComputed.{rejecting_macrostates, rejecting_transitions}
use Rattle.theory_laws.proofs.Tables.{lists-from}
use Rattle.file_spec.specs.File.{rule_in}
use Rattle.file_spec.specs.declared.Layout.{Layout}
use Rattle.file_spec.specs.Reading.{read_of}
use Rattle.file_read.proofs.Answer.{served}
use Rattle.build_spec.specs.Keys.{start_of}
use Rattle.build.specs.declared.Counts.{Counts}
use Rattle.build.specs.Built.{room_rows, room_row, built_by, refuses_room, room_after}
use Rattle.build.specs.Filling.{Made}
use Rattle.build.proofs.RoomRows.{room-few, room-zeroed, room-kept, room-written}
use Rattle.build.proofs.Answer.{none_of_lem, first-other, table-by}
use Rattle.stricter_entry_spec.specs.declared.Comparison.{Comparison}
use Rattle.stricter_entry_spec.specs.Rows.{Slices, slices_of, tables_of, alphabet_rows, both_room_rows, pair_rows, rules_rows, zeroes_rooms, scratch_left}
use Rattle.stricter_search.specs.Lists.{FileLists}
use Rattle.stricter.specs.declared.Side.{Side}
use Rattle.stricter.specs.Steps.{codes_of, moves_of, Ready, other_row, pair_row, row_of_lem, ByRow}

-- ---- rows that zero the rooms, and those that leave them

scratch-kept : (k : ℕ) (lent : List ℕ) → (k ≡ 0 → ⊥) → lent ≡ scratch_left k lent
unfolding scratch_left
scratch-kept zero lent n = absurd (n refl)
scratch-kept (suc k) lent n = refl

pub by_row : {a b : Rule} {k row : Result ⊤ Refusal} {lent : Slices} {answer : Result Comparison Refusal} {left : Slices} → k ≡ row → ByRow a b k lent answer left → ByRow a b row lent answer left
by_row e C = rw e at C

some-number : (r : Refusal) → number_of r ≡ 0 → ⊥
some-number r e = let n = number-above r in omega arith

-- a row that zeroes the rooms
pub refused-zero : {a b : Rule} {r : Refusal} {row : Result ⊤ Refusal} {lent left : Slices} → row ≡ Err r → zeroes_rooms (number_of r) ≡ true
    → left.codes_a ≡ replicate (length lent.codes_a) 0 → left.transitions_a ≡ replicate (length lent.transitions_a) 0
    → left.codes_b ≡ replicate (length lent.codes_b) 0 → left.transitions_b ≡ replicate (length lent.transitions_b) 0
    → left.word ≡ lent.word → left.scratch ≡ lent.scratch → ByRow a b row lent (Err r) left
refused-zero {a} {b} {r} {lent = lent} {left = left} e z ca ta cb tb w s =
    let k = number_of r in let n = some-number r in
    by_row (sym e) (record {
      told = (refl, w);
      codes_a_after = ca ∙ sym (room-zeroed (λ j. zeroes_rooms j) k (macrostates a) lent.codes_a n z);
      transitions_a_after = ta ∙ sym (room-zeroed (λ j. zeroes_rooms j) k (transitions a) lent.transitions_a n z);
      codes_b_after = cb ∙ sym (room-zeroed (λ j. zeroes_rooms j) k (rejecting_macrostates b) lent.codes_b n z);
      transitions_b_after = tb ∙ sym (room-zeroed (λ j. zeroes_rooms j) k (rejecting_transitions b) lent.transitions_b n z);
      scratch_after = s ∙ scratch-kept k lent.scratch n;
    })

-- a row that leaves them
pub refused-kept : {a b : Rule} {r : Refusal} {row : Result ⊤ Refusal} {lent : Slices} → row ≡ Err r → zeroes_rooms (number_of r) ≡ false → ByRow a b row lent (Err r) lent
refused-kept {a} {b} {r} {lent = lent} e z =
    let k = number_of r in let n = some-number r in
    by_row (sym e) (record {
      told = (refl, refl);
      codes_a_after = room-kept (λ j. zeroes_rooms j) k (macrostates a) lent.codes_a n z;
      transitions_a_after = room-kept (λ j. zeroes_rooms j) k (transitions a) lent.transitions_a n z;
      codes_b_after = room-kept (λ j. zeroes_rooms j) k (rejecting_macrostates b) lent.codes_b n z;
      transitions_b_after = room-kept (λ j. zeroes_rooms j) k (rejecting_transitions b) lent.transitions_b n z;
      scratch_after = scratch-kept k lent.scratch n;
    })

-- ---- rooms of the same lengths

-- served, or a row of the kind
abbrev Settles : (ℕ → Bool) → ℕ → Type 0
Settles kind k = (k ≡ 0) ⊎ (kind k ≡ true)

some-row : (kind : ℕ → Bool) (k : ℕ) → Settles kind k → (k ≡ 0 → ⊥) → kind k ≡ true
some-row kind k S n = ⊎_elim (λ z. absurd (n z)) (λ e. e) S

room-same : (k : ℕ) (list xs ys : List ℕ) → Settles (λ j. zeroes_rooms j) k → length xs ≡ length ys → room_after (λ j. zeroes_rooms j) k list xs ≡ room_after (λ j. zeroes_rooms j) k list ys
unfolding room_after
room-same zero list xs ys S e = ap (λ (n : ℕ). list ++ replicate (n - length list) 0) e
room-same (suc k) list xs ys S e = let z = some-row (λ j. zeroes_rooms j) (suc k) S (λ c. omega arith) in rw z (ap (λ (n : ℕ). replicate n 0) e)

-- the rooms lent may hold anything else of the same length
pub lent_same : {a b : Rule} {k row : Result ⊤ Refusal} {lent other : Slices} {answer : Result Comparison Refusal} {left : Slices} → k ≡ row → Settles (λ j. zeroes_rooms j) (row_of k)
    → length lent.codes_a ≡ length other.codes_a → length lent.transitions_a ≡ length other.transitions_a
    → length lent.codes_b ≡ length other.codes_b → length lent.transitions_b ≡ length other.transitions_b
    → lent.word ≡ other.word → lent.scratch ≡ other.scratch → ByRow a b k lent answer left → ByRow a b row other answer left
lent_same {a} {b} {k} {lent = lent} {other = other} r S ca ta cb tb w s C =
    by_row r (record {
      told = rw w at C.told;
      codes_a_after = C.codes_a_after ∙ room-same (row_of k) (macrostates a) lent.codes_a other.codes_a S ca;
      transitions_a_after = C.transitions_a_after ∙ room-same (row_of k) (transitions a) lent.transitions_a other.transitions_a S ta;
      codes_b_after = C.codes_b_after ∙ room-same (row_of k) (rejecting_macrostates b) lent.codes_b other.codes_b S cb;
      transitions_b_after = C.transitions_b_after ∙ room-same (row_of k) (rejecting_transitions b) lent.transitions_b other.transitions_b S tb;
      scratch_after = C.scratch_after ∙ ap (scratch_left (row_of k)) s;
    })

-- ---- rows whose numbers are all of one kind

unfoldable all_of : (ℕ → Bool) → List Check → Bool
all_of kind [] = true
all_of kind (c ∷ cs) = kind (number_of c.refusal) && all_of kind cs

first-settles : (kind : ℕ → Bool) (cs : List Check) → all_of kind cs ≡ true → Settles kind (first_row cs)
unfolding all_of first_row
first-settles kind [] e = inl refl
first-settles kind (c ∷ cs) e =
    bif c.applies
    (λ t. inr (rw (row-yes c cs t) (and_l (kind (number_of c.refusal)) (all_of kind cs) e)))
    (λ t. rw (row-no c cs t) (first-settles kind cs (and_r (kind (number_of c.refusal)) (all_of kind cs) e)))

refusal-settles : (kind : ℕ → Bool) (cs : List Check) → all_of kind cs ≡ true → Settles kind (row_of (first_refusal cs))
refusal-settles kind cs e = rw (row-refusal cs) (first-settles kind cs e)

pub file-keeps : (f : List ℕ) → zeroes_rooms (file_row f) ≡ false
unfolding file_row none_of_lem file_rows_lem body_rows preface_rows name_rows layout_rows trailer_rows number_rows list_rows formed_rows clause_rows component_rows
file-keeps f = first-other (λ k. zeroes_rooms k) refl (file_rows_lem f) refl

-- ---- what a build leaves

room-refuses : (codes moves : List ℕ) (cl ml : ℕ) → Settles (λ k. refuses_room k) (room_row codes moves cl ml)
unfolding room_row room_rows all_of
room-refuses codes moves cl ml = first-settles (λ k. refuses_room k) (room_rows codes moves cl ml) refl

refused-number : (r : Refusal) (row : ℕ) (codes moves : List ℕ) → Err r ≡ built_by row codes moves → (k : ℕ) × (row ≡ suc k) × (r ≡ refusal_at k)
unfolding built_by
refused-number r zero codes moves e = cc
refused-number r (suc row) codes moves e = (row, refl, cc)

by_number : (x : Result ⊤ Refusal) (k : ℕ) → row_of x ≡ suc k → x ≡ Err (refusal_at k)
by_number (Ok u) k e = absurd (omega arith)
by_number (Err r) k e = ap Err (sym (refusal-at r k e))

-- a build that refuses, by its row
pub record Emptied (codes moves xs zs : List ℕ) (r : Refusal) (ys ws : List ℕ) : Type 0 where
  pub row : first_refusal (room_rows codes moves (length xs) (length zs)) ≡ Err r
  pub zeroes : zeroes_rooms (number_of r) ≡ true
  pub codes-zero : ys ≡ replicate (length xs) 0
  pub moves-zero : ws ≡ replicate (length zs) 0

pub made-refused : {codes moves xs zs : List ℕ} {r : Refusal} {ys ws : List ℕ} → Made codes moves xs zs (Err r) ys ws → Emptied codes moves xs zs r ys ws
unfolding room_row
made-refused {codes} {moves} {xs} {zs} {r} M =
    let rows = room_rows codes moves (length xs) (length zs) in
    let row = room_row codes moves (length xs) (length zs) in
    let (k, at, number) = refused-number r row codes moves M.answer in
    let e : first_refusal rows ≡ Err r = by_number (first_refusal rows) k (row-refusal rows ∙ at) ∙ ap Err (sym number) in
    let n = refused-some rows r e in
    let z : refuses_room row ≡ true = some-row (λ j. refuses_room j) row (room-refuses codes moves (length xs) (length zs)) n in
    record {
      row = e;
      zeroes = ap (λ (j : ℕ). zeroes_rooms j) (sym (refused-row rows r e)) ∙ or_l (refuses_room row) (eqb row 29) z;
      codes-zero = M.codes_after ∙ room-zeroed (λ j. refuses_room j) row codes xs n z;
      moves-zero = M.moves_after ∙ room-zeroed (λ j. refuses_room j) row moves zs n z;
    }

-- a build that leaves its table
module _ (f : List ℕ) (holds : Bool) {l : Layout} {n : Counts} {xs zs ys ws : List ℕ} (p : read_of f ≡ Ok l)
    (M : Made (codes_of f holds) (moves_of f holds) xs zs (Ok n) ys ws) (e : length ys ≡ length xs) (d : length ws ≡ length zs) where
  abbrev row_made : ℕ
  row_made = room_row (codes_of f holds) (moves_of f holds) (length xs) (length zs)

  pub made_row : row_made ≡ 0
  made_row = (table-by row_made (codes_of f holds) (moves_of f holds) n M.answer).0

  pub made-ready : Ready f holds (record { layout = l; counts = n }) ys ws
  made-ready =
      let t = table-by row_made (codes_of f holds) (moves_of f holds) n M.answer in
      record {
        read = p;
        few = room-few (codes_of f holds) (moves_of f holds) (length xs) (length zs) t.0;
        macrostates = t.1;
        transitions = t.2;
        codes_held = M.codes_after ∙ room-written _ row_made (codes_of f holds) xs t.0 ∙ ap (λ (k : ℕ). codes_of f holds ++ replicate (k - length (codes_of f holds)) 0) (sym e);
        moves_held = M.moves_after ∙ room-written _ row_made (moves_of f holds) zs t.0 ∙ ap (λ (k : ℕ). moves_of f holds ++ replicate (k - length (moves_of f holds)) 0) (sym d);
      }

-- ---- a table that is held

module _ {f : List ℕ} {holds : Bool} {x : Side} {cs ts : List ℕ} (R : Ready f holds x cs ts) where
  pub front-codes : take x.counts.macrostates cs ≡ codes_of f holds
  front-codes = ap₂ (λ (k : ℕ) (l : List ℕ). take k l) R.macrostates R.codes_held ∙ take-append_seam (codes_of f holds) _

  pub front-moves : take x.counts.transitions ts ≡ moves_of f holds
  front-moves = ap₂ (λ (k : ℕ) (l : List ℕ). take k l) R.transitions R.moves_held ∙ take-append_seam (moves_of f holds) _

  pub codes-fit : x.counts.macrostates ≤ length cs
  codes-fit = let l = ap length R.codes_held ∙ length-append (codes_of f holds) _ in omega (arith, R.macrostates)

  pub moves-fit : x.counts.transitions ≤ length ts
  moves-fit = let l = ap length R.moves_held ∙ length-append (moves_of f holds) _ in omega (arith, R.transitions)

  pub held-lists : FileLists f x.layout (λ r. start_of r holds) (take x.counts.macrostates cs) (take x.counts.transitions ts)
  held-lists = record {
    read = R.read;
    lists = rw (front-codes, front-moves) (lists-from (rule_in f) (served f x.layout R.read).passing (start_of (rule_in f) holds) R.few);
    few = rw front-codes R.few;
  }

-- ---- the rows

pub numbered-room : (codes moves : List ℕ) (cl ml : ℕ) → numbered (room_rows codes moves cl ml) ≡ true
unfolding numbered room_rows
numbered-room codes moves cl ml = refl

pub file-letters : (f : List ℕ) {l : Layout} → read_of f ≡ Ok l → l.head.s ≡ (rule_in f).s
file-letters f {l} p = ap (λ (x : Layout). x.head.s) (served f l p).layout

module _ (f g : List ℕ) (lent : Slices) where
  abbrev a : Rule
  a = rule_in f

  abbrev b : Rule
  b = rule_in g

  abbrev rows_a : List Check
  rows_a = room_rows (macrostates a) (transitions a) (length lent.codes_a) (length lent.transitions_a)

  abbrev rows_b : List Check
  rows_b = room_rows (rejecting_macrostates b) (rejecting_transitions b) (length lent.codes_b) (length lent.transitions_b)

  abbrev rows_p : List Check
  rows_p = pair_rows (tables_of a b) lent

  -- B's build refuses
  pub other-refused : {r : Refusal} {ys ws : List ℕ} → Emptied (codes_of g false) (moves_of g false) lent.codes_b lent.transitions_b r ys ws → other_row a b lent ≡ Err r
  unfolding other_row start_of
  other-refused {r} E = refusal-left rows_b rows_p r E.row

  -- it leaves ys and ws in B's rooms
  pub other-served : (ys ws : List ℕ) → room_row (codes_of g false) (moves_of g false) (length lent.codes_b) (length lent.transitions_b) ≡ 0
      → pair_row a b (slices_of lent.codes_a lent.transitions_a ys ws lent.word lent.scratch) ≡ other_row a b lent
  unfolding other_row pair_row pair_rows room_row start_of
  other-served ys ws e = sym (refusal-right rows_b rows_p (refusal-passes rows_b e))

  pub other-settles : Settles (λ k. zeroes_rooms k) (row_of (other_row a b lent))
  unfolding other_row all_of room_rows pair_rows
  other-settles = refusal-settles (λ k. zeroes_rooms k) _ refl

  pub pair_settles : Settles (λ k. zeroes_rooms k) (row_of (pair_row a b lent))
  unfolding pair_row all_of pair_rows
  pair_settles = refusal-settles (λ k. zeroes_rooms k) _ refl

  letters-other : (a.s ≡ b.s → ⊥) → row_of_lem a b lent ≡ Err OtherLetters
  unfolding rules_rows alphabet_rows
  letters-other n = refusal-yes (check (not (eqb a.s b.s)) OtherLetters) _ (ap not (ne_eqb a.s b.s n))

  -- "28, different s"
  pub different : (a.s ≡ b.s → ⊥) → ByRow a b (row_of_lem a b lent) lent (Err OtherLetters) lent
  different n = refused-kept (letters-other n) refl

  module _ (same : a.s ≡ b.s) where
    tables-first : row_of_lem a b lent ≡ first_refusal (rows_a ++ (rows_b ++ rows_p))
    unfolding rules_rows alphabet_rows both_room_rows
    tables-first = refusal-no (check (not (eqb a.s b.s)) OtherLetters) _ (ap not (eq-eqb a.s b.s same)) ∙ ap first_refusal (append_assoc rows_a rows_b rows_p)

    -- A's build refuses
    pub own-refused : {r : Refusal} {ys ws : List ℕ} → Emptied (codes_of f true) (moves_of f true) lent.codes_a lent.transitions_a r ys ws → row_of_lem a b lent ≡ Err r
    unfolding start_of
    own-refused {r} E = tables-first ∙ refusal-left rows_a (rows_b ++ rows_p) r E.row

    -- it leaves ys and ws in A's rooms
    pub own-served : (ys ws : List ℕ) → room_row (codes_of f true) (moves_of f true) (length lent.codes_a) (length lent.transitions_a) ≡ 0
        → other_row a b (slices_of ys ws lent.codes_b lent.transitions_b lent.word lent.scratch) ≡ row_of_lem a b lent
    unfolding other_row pair_rows room_row start_of
    own-served ys ws e = sym (tables-first ∙ refusal-right rows_a (rows_b ++ rows_p) (refusal-passes rows_a e))
