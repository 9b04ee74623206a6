-- What the steps of the comparison know of the rooms.
use Rattle.std.specs.Prelude.{◌≡◌, Bool, List, ◌++◌, ℕ, ◌-◌, ◌≤◌, length, replicate, Result, Ok, ⊤}
use Rattle.refusals.specs.Rows.{first_refusal}
use Rattle.refusals.specs.declared.Refusal.{Refusal}
use Rattle.theory.specs.Rule.{Rule}
use Rattle.rejecting_spec.specs.RejectingComputed.{rejecting_macrostates, rejecting_transitions}
use Rattle.file_spec.specs.File.{rule_in}
use Rattle.file_spec.specs.Reading.{read_of}
use Rattle.build_spec.specs.Keys.{start_of}
use Rattle.build.specs.Built.{room_rows, file_codes, file_moves}
use Rattle.stricter_entry_spec.specs.declared.Comparison.{Comparison}
use Rattle.stricter_entry_spec.specs.Rows.{Slices, tables_of, pair_rows, rules_rows}
use Rattle.stricter_entry_spec.specs.Compared.{ComparedBy}
use Rattle.stricter.specs.declared.Side.{Side}

-- the table of a file's rule, or where `holds` is false that of the words that it rejects
abbrev pub codes_of : List ℕ → Bool → List ℕ
codes_of file holds = file_codes (λ r. start_of r holds) file

abbrev pub moves_of : List ℕ → Bool → List ℕ
moves_of file holds = file_moves (λ r. start_of r holds) file

-- the file is accepted, and the rooms cs and ts hold its table, and zeros after it
pub record Ready (file : List ℕ) (holds : Bool) (side : Side) (cs ts : List ℕ) : Type 0 where
  pub read : read_of file ≡ Ok side.layout
  pub few : length (codes_of file holds) ≤ 65536
  pub macrostates : side.counts.macrostates ≡ length (codes_of file holds)
  pub transitions : side.counts.transitions ≡ length (moves_of file holds)
  pub codes_held : cs ≡ codes_of file holds ++ replicate (length cs - length (codes_of file holds)) 0
  pub moves_held : ts ≡ moves_of file holds ++ replicate (length ts - length (moves_of file holds)) 0

-- what refuses by the rows that are left once A's table is built
unfoldable pub other_row : Rule → Rule → Slices → Result ⊤ Refusal
other_row a b lent = first_refusal (room_rows (rejecting_macrostates b) (rejecting_transitions b) (length lent.codes_b) (length lent.transitions_b) ++ pair_rows (tables_of a b) lent)

-- by the row that is left once both are
unfoldable pub pair_row : Rule → Rule → Slices → Result ⊤ Refusal
pair_row a b lent = first_refusal (pair_rows (tables_of a b) lent)

-- what refuses two rules, and the comparison by it, with the tables as they are computed
abbrev pub row_of_lem : Rule → Rule → Slices → Result ⊤ Refusal
row_of_lem a b lent = first_refusal (rules_rows a b (tables_of a b) lent)

abbrev pub ByRow : Rule → Rule → Result ⊤ Refusal → Slices → Result Comparison Refusal → Slices → Type 0
ByRow a b refused lent answer left = ComparedBy a b (tables_of a b) refused lent answer left

-- two files, by the rows that are left
abbrev pub FilesBy : (Rule → Rule → Slices → Result ⊤ Refusal) → List ℕ → List ℕ → Slices → Result Comparison Refusal → Slices → Type 0
FilesBy refused a b lent answer left = ByRow (rule_in a) (rule_in b) (refused (rule_in a) (rule_in b) lent) lent answer left
