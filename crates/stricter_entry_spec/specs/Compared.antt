-- What the comparison of two rules promises of two files.
use Rattle.std.specs.Prelude.{◌≡◌, List, ◌++◌, ℕ, ◌+◌, ◌*◌, ◌≤◌, length, drop, Result, Ok, Err, ⊤}
use Rattle.refusals.specs.Rows.{first_refusal, row_of}
use Rattle.refusals.specs.declared.Refusal.{Refusal}
use Rattle.theory.specs.Rule.{Rule}
use Rattle.theory.specs.Table.{ListsReachable}
use Rattle.theory.specs.TableComputed.{macrostates, transitions}
use Rattle.file_spec.specs.File.{rule_in}
use Rattle.file_spec.specs.Rows.{file_row}
use Rattle.rejecting_spec.specs.Rejecting.{ListsRejecting}
use Rattle.rejecting_spec.specs.RejectingComputed.{rejecting_macrostates, rejecting_transitions}
use Rattle.build.specs.Built.{room_after}
use Rattle.stricter_spec.specs.Rules.{Stricter, Against}
use Rattle.stricter_entry_spec.specs.declared.BothCounts.{BothCounts}
use Rattle.stricter_entry_spec.specs.declared.Comparison.{Comparison}
use Rattle.stricter_entry_spec.specs.declared.Comparison.TheVariants.{Yes, No}
use Rattle.stricter_entry_spec.specs.Rows.{Slices, Tables, tables_of, pairs, rules_rows, stricter_rows, stricter_row, zeroes_rooms, scratch_left}

-- the counts of both tables
unfoldable pub sizes_of : Tables → BothCounts
sizes_of tables = record {
  a = record { macrostates = length tables.codes_a; transitions = length tables.transitions_a };
  b = record { macrostates = length tables.codes_b; transitions = length tables.transitions_b };
}

module _ (a b : Rule) (tables : Tables) where
  -- 02: "No definition here decides which of several it is; what must hold of it is that A accepts it and B rejects it."
  -- Its lead-in of l letters, then its cycle of c, stand at the start of the word slice; "the word slice changed only where the word is".
  pub record WordFound (l c : ℕ) (old new : List ℕ) : Type 0 where
    pub lead : List ℕ
    pub cycle : List ℕ
    pub lead_long : length lead ≡ l
    pub cycle_long : length cycle ≡ c
    pub letters : new ≡ lead ++ cycle ++ drop (l + c) old
    pub short : l + c ≤ 3 * pairs tables
    pub against : Against a b lead cycle

  -- By what refuses: the answer, and the word slice before and after. 02: "The answer is yes, or a word accepted by A and rejected
  -- by B.", "Yes is said only where no such word of any length exists."
  abbrev pub Told : Result ⊤ Refusal → Result Comparison Refusal → List ℕ → List ℕ → Type 0
  Told (Ok _) (Ok (Yes sizes)) old new = (sizes ≡ sizes_of tables) × (new ≡ old) × Stricter a b
  Told (Ok _) (Ok (No sizes l c)) old new = (sizes ≡ sizes_of tables) × WordFound l c old new
  Told (Ok _) (Err r) old new = ⊥
  Told (Err r) answer old new = (answer ≡ Err r) × (new ≡ old)

  -- by what refuses: the answer, and the slices as they were lent and afterwards
  pub record ComparedBy (refused : Result ⊤ Refusal) (lent : Slices) (answer : Result Comparison Refusal) (left : Slices) : Type 0 where
    pub told : Told refused answer lent.word left.word
    pub codes_a_after : left.codes_a ≡ room_after zeroes_rooms (row_of refused) tables.codes_a lent.codes_a
    pub transitions_a_after : left.transitions_a ≡ room_after zeroes_rooms (row_of refused) tables.transitions_a lent.transitions_a
    pub codes_b_after : left.codes_b ≡ room_after zeroes_rooms (row_of refused) tables.codes_b lent.codes_b
    pub transitions_b_after : left.transitions_b ≡ room_after zeroes_rooms (row_of refused) tables.transitions_b lent.transitions_b
    pub scratch_after : left.scratch ≡ scratch_left (row_of refused) lent.scratch

-- of two files
pub record Compared (a b : List ℕ) (lent : Slices) (answer : Result Comparison Refusal) (left : Slices) : Type 0 where
  pub by_row : ComparedBy (rule_in a) (rule_in b) (tables_of (rule_in a) (rule_in b)) (first_refusal (stricter_rows a b lent)) lent answer left
  -- any lists of A's reachable macrostates and transitions, and of those of the words that B rejects, decide the answer and all slices,
  -- served and refused alike
  pub by_lists : file_row a ≡ 0 → file_row b ≡ 0 → (tables : Tables) → ListsReachable (rule_in a) tables.codes_a tables.transitions_a
      → ListsRejecting (rule_in b) tables.codes_b tables.transitions_b → ComparedBy (rule_in a) (rule_in b) tables (first_refusal (rules_rows (rule_in a) (rule_in b) tables lent)) lent answer left
  -- such are the lists that a served call leaves in the rooms
  pub lists_a : stricter_row a b lent ≡ 0 → ListsReachable (rule_in a) (macrostates (rule_in a)) (transitions (rule_in a))
  pub lists_b : stricter_row a b lent ≡ 0 → ListsRejecting (rule_in b) (rejecting_macrostates (rule_in b)) (rejecting_transitions (rule_in b))
