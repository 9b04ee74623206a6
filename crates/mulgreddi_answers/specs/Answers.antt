-- For each answer, 01's number and values.
use Rattle.std.specs.Prelude.{ℕ, Bool, true, false, Result, Ok, Err, Option, Some, None}
use Rattle.mulgreddi_answers.specs.declared.Answer.{Answer}
use Rattle.refusals.specs.Rows.{number_of}
use Rattle.refusals.specs.declared.Refusal.{Refusal}
use Rattle.build.specs.declared.Counts.{Counts}
use Rattle.follow_spec.specs.declared.FollowCounts.{FollowCounts}
use Rattle.hoa_spec.specs.declared.TableSizes.{TableSizes}
use Rattle.live_spec.specs.declared.LiveCounts.{LiveCounts}
use Rattle.sheet_spec.specs.declared.Totals.{Totals}
use Rattle.word_spelling.specs.declared.Lengths.{Lengths}

-- 01: "The answer is the number alone"
abbrev pub refused_as : ℕ → Answer
refused_as row = record { refusal = row; first = 0; second = 0 }

abbrev pub served_as : ℕ → ℕ → Answer
served_as first second = record { refusal = 0; first = first; second = second }

-- the answer of a call, by the two numbers that stand for what it serves
abbrev pub answer_of : {T : Type 0} → (T → ℕ × ℕ) → Result T Refusal → Answer
answer_of shown (Ok x) = served_as (shown x).0 (shown x).1
answer_of shown (Err refusal) = refused_as (number_of refusal)

-- a number alone
abbrev pub number_shown : ℕ → ℕ × ℕ
number_shown n = (n, 0)

-- 1 yes, 0 no
abbrev pub flag_shown : Bool → ℕ × ℕ
flag_shown true = (1, 0)
flag_shown false = (0, 0)

-- 01: "it answers no, or yes with the lowest number": 1 and the number for yes, 0 for no
abbrev pub start_shown : Option ℕ → ℕ × ℕ
start_shown (Some number) = (1, number)
start_shown None = (0, 0)

-- the number of states of the mixed loop, 0 for none
abbrev pub loop_shown : Option ℕ → ℕ × ℕ
loop_shown (Some count) = (count, 0)
loop_shown None = (0, 0)

-- "It answers both counts": macrostates, transitions
abbrev pub counts_shown : Counts → ℕ × ℕ
counts_shown counts = (counts.macrostates, counts.transitions)

-- the numbers of macrostates and transitions that a text carries
abbrev pub sizes_shown : TableSizes → ℕ × ℕ
sizes_shown sizes = (sizes.macrostates, sizes.transitions)

-- the number of letters held, and of macrostates in the set
abbrev pub live_shown : LiveCounts → ℕ × ℕ
live_shown counts = (counts.letters, counts.macrostates)

-- how many macrostates are left, and after how many letters none was for the first time, or how many there were
abbrev pub follow_shown : FollowCounts → ℕ × ℕ
follow_shown counts = (counts.left, counts.letters)

-- the lengths of lead-in and cycle
abbrev pub lengths_shown : Lengths → ℕ × ℕ
lengths_shown lengths = (lengths.lead, lengths.cycle)

-- the number of words on the sheet, and of cycles filled
abbrev pub totals_shown : Totals → ℕ × ℕ
totals_shown totals = (totals.words, totals.cycles)

-- the length of the written file
unfoldable pub written_answer : Result ℕ Refusal → Answer
written_answer = answer_of number_shown

-- the length of the tidied file
unfoldable pub tidied_answer : Result ℕ Refusal → Answer
tidied_answer = answer_of number_shown

unfoldable pub loop_answer : Result (Option ℕ) Refusal → Answer
loop_answer = answer_of loop_shown

-- the number of letters written
unfoldable pub translated_answer : Result ℕ Refusal → Answer
translated_answer = answer_of number_shown

unfoldable pub live_answer : Result LiveCounts Refusal → Answer
live_answer = answer_of live_shown

unfoldable pub follow_answer : Result FollowCounts Refusal → Answer
follow_answer = answer_of follow_shown

-- 1 same, 0 not
unfoldable pub same_rules_answer : Result Bool Refusal → Answer
same_rules_answer = answer_of flag_shown

unfoldable pub same_words_answer : Result Bool Refusal → Answer
same_words_answer = answer_of flag_shown

unfoldable pub tidy_word_answer : Result Lengths Refusal → Answer
tidy_word_answer = answer_of lengths_shown

unfoldable pub verdict_answer : Result Bool Refusal → Answer
verdict_answer = answer_of flag_shown

unfoldable pub sheet_answer : Result Totals Refusal → Answer
sheet_answer = answer_of totals_shown

unfoldable pub built_answer : Result Counts Refusal → Answer
built_answer = answer_of counts_shown

unfoldable pub hoa_read_answer : Result TableSizes Refusal → Answer
hoa_read_answer = answer_of sizes_shown

unfoldable pub start_answer : Result (Option ℕ) Refusal → Answer
start_answer = answer_of start_shown
