-- The listing of a rule file: what 01's listing program prints.
use Rattle.std.specs.Prelude.{◌≡◌, List, ℕ, zero, suc, ◌≤◌, ◌<◌, length}
use Rattle.theory.specs.Macrostate.{is_initial_lem}
use Rattle.theory.specs.Table.{ListsReachable}
use Rattle.file_spec.specs.File.{NamedRule, named_in, rule_in}
use Rattle.file_spec.specs.Rows.{file_row}
use Rattle.build.specs.Built.{room_row}
use Rattle.listing_lines_spec.specs.Lines.{refused_line, long_line, table_text}

-- by the first row that refuses, or 0: the table of these lists, or "a refusal prints `refused` and the number"
unfoldable pub text_by : ℕ → NamedRule → List ℕ → List ℕ → List ℕ
text_by zero r codes moves = table_text (is_initial_lem r.rule) r.names codes moves
text_by (suc k) r codes moves = refused_line (suc k)

-- the text that is printed of a file
pub record Printed (file text : List ℕ) : Type 0 where
  -- 01: "over 4,096 bytes of input prints `long`"
  pub long : 4096 < length file → text ≡ long_line
  pub refused : length file ≤ 4096 → (k : ℕ) → file_row file ≡ suc k → text ≡ refused_line (suc k)
  -- 01: "Its rooms are 512 and 4,096": any two lists of the rule's reachable macrostates and transitions decide the text, a table or 17 or 18
  pub by_lists : length file ≤ 4096 → file_row file ≡ 0 → (codes moves : List ℕ) → ListsReachable (rule_in file) codes moves
      → text ≡ text_by (room_row codes moves 512 4096) (named_in file) codes moves
