-- The check's answer: its number and values, and where they say that the names are.
use Rattle.std.specs.Prelude.{◌≡◌, List, ℕ, ◌+◌, ◌-◌, ◌≤◌, ◌<◌, take, drop, Result, Ok, Err}
use Rattle.mulgreddi_answers.specs.declared.Answer.{Answer}
use Rattle.mulgreddi_answers.specs.Answers.{refused_as, served_as}
use Rattle.file_spec.specs.File.{names_of}
use Rattle.file_spec.specs.declared.Layout.{Layout}
use Rattle.refusals.specs.declared.Refusal.{Refusal}
use Rattle.refusals.specs.Rows.{number_of}
use Rattle.file_spec.specs.Reading.{read_of}

-- the length of the preface, and how many of its bytes are names
unfoldable pub read_answer : Result Layout Refusal → Answer
read_answer (Ok layout) = served_as layout.at layout.names
read_answer (Err refusal) = refused_as (number_of refusal)

-- the answer r for a file
pub record Checked (f : List ℕ) (r : Answer) : Type 0 where
  pub answer : r ≡ read_answer (read_of f)
  -- 02: "s names of 8 bytes, then 4E 4D, right before the clauses": names and two bytes more fit in the preface,
  pub inside : 0 < r.second → r.second + 2 ≤ r.first
  -- and the bytes from `first - 2 - second` on are the names, letter 0 first (mulgreddi_letter_name)
  pub names : r.refusal ≡ 0 → take r.second (drop (r.first - 2 - r.second) f) ≡ names_of f
