-- `macrostates_length` meets its contract: the lines of the first i codes are added up.
use Rattle.std.proofs.Common.{◌≡◌, ◌*◌, ◌≤◌, length, take}
use Rattle.listing_lines_spec.specs.Lines.{initial_at, lines}
use Rattle.table_lent.specs.Lent.{words_in}
use Rattle.hoa_spec.specs.Text.{flags_of, start_of, state_of}
use Rattle.hoa_text.proofs.lengths.macrostates_length.Given as goal

abbrev pub invariant-loop-i : goal.invariant-loop-i
invariant-loop-i l = record {
  starts_so_far : l.starts ≡ length (lines start_of 0 (take l.i (flags_of (initial_at l.initial') (words_in l.codes))));
  states_so_far : l.states ≡ length (lines state_of 0 (take l.i (flags_of (initial_at l.initial') (words_in l.codes))));
  starts_short : l.starts ≤ 13 * l.i;
  states_short : l.states ≤ 17 * l.i;
}
