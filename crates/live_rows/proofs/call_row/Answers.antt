-- `call_row` meets its contract: the parts one after the other; as many codes as the bytes hold.
use Rattle.std.proofs.Common.{◌≡◌, ℕ, sym, ap, ◌∙◌}
use Rattle.std.specs.Prelude.{Ok}
use Rattle.refusals.specs.Rows.{first_refusal}
use Rattle.refusals.proofs.Rows.{refusal-right}
use Rattle.table_lent.specs.Lent.{in_bytes_lem, table_rows_lem}
use Rattle.table_lent.proofs.Reading.{both_bytes, words-in-length}
use Rattle.live_spec.specs.Rows.{arrival_rows, log_rows, slice_rows, live_call_rows}
use Rattle.live_rows.proofs.call_row.Goals as goal

pub returns : goal.returns
unfolding live_call_rows in_bytes_lem
returns c =
    let first = sym c.letter_row.ensures ∙ c.in_ok-letter_row.was in
    let second = rw (both_bytes c.args.codes.now, both_bytes c.args.transitions.now) at (sym c.table_row.ensures ∙ c.in_ok-table_row.was) in
    let third = sym c.log_row.ensures ∙ c.in_ok-log_row.was in
    c.slice_row.ensures ∙ ap (λ (n : ℕ). first_refusal (slice_rows n c.args.state.now c.args.room)) (sym (words-in-length c.args.codes.now))
    ∙ sym (refusal-right (log_rows c.args.call c.args.state.now) _ third)
    ∙ sym (refusal-right (table_rows_lem c.args.s (in_bytes_lem c.args.codes.now) (in_bytes_lem c.args.transitions.now)) _ second)
    ∙ sym (refusal-right (arrival_rows c.args.s c.args.call) _ first)
