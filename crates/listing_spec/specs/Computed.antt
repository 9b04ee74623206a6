-- The listing of a rule file, computed. That it is what 01's listing program prints, by any lists of the rule's macrostates and transitions, is `Printed`
-- (Listing), proved of it in proofs/ByLists, so what stands here has not to be believed.
use Rattle.std.specs.Prelude.{cond, List, ℕ, ltb, length}
use Rattle.std.specs.Prelude.{Result, Ok, Err}
use Rattle.refusals.specs.declared.Refusal.{Refusal}
use Rattle.refusals.specs.Rows.{number_of}
use Rattle.theory.specs.Macrostate.{is_initial_lem}
use Rattle.theory.specs.TableComputed.{macrostates, transitions}
use Rattle.file_spec.specs.File.{NamedRule, named_in}
use Rattle.build.specs.declared.Counts.{Counts}
use Rattle.build.specs.Built.{built_of}
use Rattle.listing_lines_spec.specs.Lines.{refused_line, long_line, table_text}

-- by the answer of the build
unfoldable pub answer_text : Result Counts Refusal → NamedRule → List ℕ
answer_text (Ok counts) r = table_text (is_initial_lem r.rule) r.names (macrostates r.rule) (transitions r.rule)
answer_text (Err refusal) r = refused_line (number_of refusal)

-- 01: "Its rooms are 512 and 4,096; a refusal prints `refused` and the number; over 4,096 bytes of input prints `long`."
unfoldable pub listing_of : List ℕ → List ℕ
listing_of file = cond (ltb 4096 (length file)) long_line (answer_text (built_of file 512 4096) (named_in file))
