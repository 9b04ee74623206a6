-- What the judge of one word of a sheet is given and leaves.
use Rattle.std.specs.Prelude.{◌≡◌, List, ℕ, ◌+◌, ◌-◌, ◌≤◌, ◌<◌, length, take, drop}
use Rattle.theory.specs.Passing.{Passing}
use Rattle.theory.specs.Rule.{Rule}
use Rattle.theory.specs.Word.{places}
use Rattle.rule_entries.specs.Starts.{EntryStarts}
use Rattle.rule_reach.specs.Tables.{closures_of}
use Rattle.word_spelling_spec.specs.SpellingComputed.{tidy_lead, tidy_cycle}
use Rattle.sheet_spec.specs.Words.{lead_of, cycle_of, fault_of}
use Rattle.sheet_spec.specs.Computed.{answer_of, masks_of_lem, learn_by}
use Rattle.sheet_words.specs.Places.{word_from}
use Rattle.sheet_cycles.specs.Known.{known_of}
use Rattle.sheet_cycles.specs.Filled.{Filled}
use Rattle.sheet_word.specs.declared.TidyPart.{TidyPart}
use Rattle.sheet_word.specs.declared.WordAnswer.{WordAnswer}

-- a rule that passes every check, its tables, and n known cycles of the sheet with their masks
pub record SheetReady (r : Rule) (starts reach sheet from size filled : List ℕ) (n : ℕ) : Type 0 where
  pub passing : Passing r
  pub beginnings : EntryStarts r.counts starts
  pub closed : reach ≡ closures_of r
  pub cycles : Filled r sheet from size filled n
  pub room : n < 64

-- the tidy spelling of the word at byte at, as parts of the sheet
pub record TidyAt (sheet : List ℕ) (at : ℕ) (t : TidyPart) : Type 0 where
  pub order : t.first ≤ t.begin
  pub within : t.begin + t.size ≤ length sheet
  pub short : t.size ≤ 32
  pub few : t.places ≤ 64
  pub all : t.places ≡ places (lead_of (word_from sheet at)) (cycle_of (word_from sheet at))
  pub lead : take (t.begin - t.first) (drop t.first sheet) ≡ tidy_lead (lead_of (word_from sheet at)) (cycle_of (word_from sheet at))
  pub cycle : take t.size (drop t.begin sheet) ≡ tidy_cycle (lead_of (word_from sheet at)) (cycle_of (word_from sheet at))

-- the word at byte at served: its mask bytes stand in the block, and its tidy cycle is known; cycles tells how many are
pub record Served (r : Rule) (sheet : List ℕ) (at : ℕ) (from size : List ℕ) (n : ℕ) (from' size' filled' block' : List ℕ) (cycles : ℕ) : Type 0 where
  pub masks : block' ≡ masks_of_lem r (word_from sheet at)
  pub known : known_of sheet from' size' cycles ≡ learn_by (fault_of r.s (word_from sheet at)) (known_of sheet from size n) (word_from sheet at)
  pub filled : Filled r sheet from' size' filled' cycles
  pub one : cycles ≤ n + 1

-- the word at byte at judged: its answer byte, and all that is served
pub record WordJudged (r : Rule) (sheet : List ℕ) (at : ℕ) (from size : List ℕ) (n : ℕ) (from' size' filled' block' : List ℕ) (v : WordAnswer) : Type 0 where
  pub answer : v.answer ≡ answer_of r (word_from sheet at)
  pub served : Served r sheet at from size n from' size' filled' block' v.cycles
