-- `call_row` meets its contract: the parts one after the other; as many codes as the bytes hold.
use Rattle.std.proofs.Common.{ℕ, sym, ap, ◌∙◌}
use Rattle.refusals.specs.Rows.{first_refusal}
use Rattle.table_lent.specs.Lent.{in_bytes_lem}
use Rattle.table_lent.proofs.Reading.{both_bytes, words-in-length}
use Rattle.follow_spec.specs.Rows.{set_rows}
use Rattle.follow_call.proofs.Checks.{set-answers}
use Rattle.follow_call.proofs.call_row.Goals as goal

pub returns : goal.returns
unfolding in_bytes_lem
returns c =
    c.set_row.ensures ∙ ap (λ (n : ℕ). first_refusal (set_rows n c.args.room)) (sym (words-in-length c.args.codes.now))
    ∙ set-answers c.args.s c.args.letters.now (in_bytes_lem c.args.codes.now) (in_bytes_lem c.args.transitions.now) c.args.room (sym c.letter_row.ensures ∙ c.in_ok-letter_row.was)
    (rw (both_bytes c.args.codes.now, both_bytes c.args.transitions.now) at (sym c.table_row.ensures ∙ c.in_ok-table_row.was))
