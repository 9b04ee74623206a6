-- What the tidy tool answers, and what its slice then holds.
use Rattle.std.specs.Prelude.{ℕ, ◌≡◌, ◌↔◌, List, ◌++◌, length, take, Result, Ok}
use Rattle.std.specs.Result.{result_and}
use Rattle.refusals.specs.declared.Refusal.{Refusal}
use Rattle.refusals.specs.Rows.{Check, first_refusal, first_row}
use Rattle.theory.specs.Word.{WordOver}
use Rattle.theory.specs.Plan.{AcceptsFrom}
use Rattle.theory.specs.Truth.{truth_masks}
use Rattle.rule_tidy_spec.specs.Tidy.{tidy_rule_lem}
use Rattle.file_spec.specs.File.{trailer, part_before_lem, names_of, rule_in, body_of}
use Rattle.file_spec.specs.Names.{preface_from}
use Rattle.file_spec.specs.Rows.{layout_rows, preface_rows, file_row}
use Rattle.file_spec.specs.RuleRows.{component_rows}
use Rattle.file_write_spec.specs.Written.{slice_rows, after}

-- the rule's group without row 20, on the rule as it stands. 02: "the tidy tool skips this check alone"
unfoldable pub tidy_rows : List ℕ → List Check
tidy_rows f = layout_rows f ++ (component_rows (rule_in f) ++ preface_rows (trailer f 1) (part_before_lem f))

-- 02: "The tool's file is laid out as the writer does it.", "The writer writes the names, with 4E 4D, as its whole preface": those of the file
abbrev pub tidy_file : List ℕ → List ℕ
tidy_file f = preface_from (names_of f) ++ body_of (tidy_rule_lem (rule_in f))

-- the rule's group without 20, then 16; the slice has room bytes
abbrev pub call_rows : List ℕ → ℕ → List Check
call_rows f room = tidy_rows f ++ slice_rows room (tidy_file f)

-- the number of the first row that refuses, or 0
unfoldable pub tidy_row : List ℕ → ℕ → ℕ
tidy_row f room = first_row (call_rows f room)

-- by what refuses first: the length of the file where nothing does, else the refusal alone
unfoldable pub tidied_of : List ℕ → ℕ → Result ℕ Refusal
tidied_of f room = result_and (first_refusal (call_rows f room)) (Ok (length (tidy_file f)))

-- the slice that held old: the file at its start and the rest as lent, or all as lent where a row refuses
unfoldable pub slice_tidied : List ℕ → List ℕ → List ℕ
slice_tidied f old = after (tidy_row f (length old)) (tidy_file f) old

-- ---- what it means

-- the bytes tidied, for a file f
pub record TidyMeant (f tidied : List ℕ) : Type 0 where
  -- they are accepted, row 20 included,
  pub accepted : file_row tidied ≡ 0
  -- and read as "The tidied rule", with the same names
  pub rule : rule_in tidied ≡ tidy_rule_lem (rule_in f)
  pub names : names_of tidied ≡ names_of f
  -- 02: "The tidied rule must give equal truth masks on all words"
  pub masks : (lead cycle : List ℕ) → WordOver (rule_in f).s lead cycle → truth_masks (rule_in tidied) lead cycle ≡ truth_masks (rule_in f) lead cycle
  -- by plans: it accepts from the same pairs
  pub pairs : (lead cycle : List ℕ) (q p : ℕ) → AcceptsFrom (rule_in tidied) lead cycle q p ↔ AcceptsFrom (rule_in f) lead cycle q p

-- the answer a, and the slice before and after
pub record TidyCalled (f old new : List ℕ) (a : Result ℕ Refusal) : Type 0 where
  pub answer : a ≡ tidied_of f (length old)
  pub written : new ≡ slice_tidied f old
  -- the file that a served call leaves, as long as its answer says
  pub meant : (m : ℕ) → a ≡ Ok m → TidyMeant f (take m new)
