-- For each case of the answer, the eight numbers of the C interface.
use Rattle.std.specs.Prelude.{ℕ, Result, Ok, Err}
use Rattle.refusals.specs.Rows.{number_of}
use Rattle.refusals.specs.declared.Refusal.{Refusal}
use Rattle.stricter_entry_spec.specs.declared.BothCounts.{BothCounts}
use Rattle.stricter_entry_spec.specs.declared.Comparison.{Comparison}
use Rattle.stricter_entry_spec.specs.declared.Comparison.TheVariants.{Yes, No}
use Rattle.mulgreddi_answers_stricter.specs.declared.Numbers.{Numbers}

-- a served call: the verdict, the lengths of lead-in and cycle, and the counts of both tables
abbrev pub told_as : ℕ → ℕ → ℕ → BothCounts → Numbers
told_as stricter lead cycle sizes = record {
  refusal = 0;
  stricter = stricter;
  lead = lead;
  cycle = cycle;
  amacrostates = sizes.a.macrostates;
  atransitions = sizes.a.transitions;
  bmacrostates = sizes.b.macrostates;
  btransitions = sizes.b.transitions;
}

-- 1 yes, 0 no
unfoldable pub comparison_answer : Result Comparison Refusal → Numbers
comparison_answer (Ok (Yes sizes)) = told_as 1 0 0 sizes
comparison_answer (Ok (No sizes lead cycle)) = told_as 0 lead cycle sizes
comparison_answer (Err refusal) = record { refusal = number_of refusal; stricter = 0; lead = 0; cycle = 0; amacrostates = 0; atransitions = 0; bmacrostates = 0; btransitions = 0 }
