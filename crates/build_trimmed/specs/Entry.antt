-- What the trimmed build promises of a file.
use Rattle.std.specs.Prelude.{◌≡◌, List, ℕ, length, take}
use Rattle.std.specs.Prelude.{Result, Ok, Err}
use Rattle.refusals.specs.declared.Refusal.{Refusal}
use Rattle.theory.specs.Demand.{Demand3}
use Rattle.theory.specs.Table.{ListsReachable}
use Rattle.endless_spec.specs.Endless.{NeverTwo, TellsTruth}
use Rattle.file_spec.specs.File.{rule_in}
use Rattle.file_spec.specs.Rows.{file_row}
use Rattle.build.specs.declared.Counts.{Counts}
use Rattle.build.specs.Built.{room_row}
use Rattle.build.specs.Filling.{Filled}
use Rattle.trim_spec.specs.Matters.{ListsMattering, RunsSurvive}
use Rattle.build_trimmed.specs.Answers.{trimmed_of, trimmed_codes_after, trimmed_transitions_after}

-- the answer b, and the slices of codes and transitions afterwards, ys and ws; they were lent as xs and zs
pub record TrimmedBuilt (file xs zs : List ℕ) (b : Result Counts Refusal) (ys ws : List ℕ) : Type 0 where
  pub answer : b ≡ trimmed_of file (length xs) (length zs)
  pub codes_after : ys ≡ trimmed_codes_after file xs (length zs)
  pub moves_after : ws ≡ trimmed_transitions_after file (length xs) zs
  -- any two lists of the reachable macrostates and transitions decide whether 17 or 18 refuses, and where neither does, any two lists of those that
  -- matter decide the answer and both slices
  pub by_lists : file_row file ≡ 0 → (codes moves left kept : List ℕ) → ListsReachable (rule_in file) codes moves
      → (room_row codes moves (length xs) (length zs) ≡ 0 → ListsMattering (rule_in file) left kept)
      → Filled (room_row codes moves (length xs) (length zs)) left kept xs zs b ys ws
  -- what the slices hold, each up to its count
  pub lists : (n : Counts) → b ≡ Ok n → ListsMattering (rule_in file) (take n.macrostates ys) (take n.transitions ws)
  -- 02: demand 3, of the smaller table
  pub demand : (n : Counts) → b ≡ Ok n → Demand3 (rule_in file) (take n.macrostates ys) (take n.transitions ws)
  -- 02, M-112: "The table of M-104 is included."
  pub never_two : (n : Counts) → b ≡ Ok n → NeverTwo (rule_in file) (take n.macrostates ys) (take n.transitions ws)
  -- over every endless sequence the sets of an accepting run tell the truth, and so the rule accepts the sequence
  pub truth : (n : Counts) → b ≡ Ok n → TellsTruth (rule_in file) (take n.macrostates ys) (take n.transitions ws)
  -- 02: "The one accepting run of each word must survive in the smaller table.": from the table of any two lists of the reachable macrostates and transitions
  pub survival : (n : Counts) → b ≡ Ok n → (codes moves : List ℕ) → ListsReachable (rule_in file) codes moves
      → RunsSurvive (rule_in file) codes moves (take n.macrostates ys) (take n.transitions ws)
