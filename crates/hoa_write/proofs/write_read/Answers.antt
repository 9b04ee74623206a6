-- `hoa_write::write_read` meets its contract: what refuses, or the text.
use Rattle.std.proofs.Common.{◌≡◌, ◌++◌, List, ℕ, length, drop, sym, ◌∙◌, ap, rules}
use Rattle.std.specs.Prelude.{Err}
use borrow.Author.Tests.{leb-true, leb-false}
use Rattle.slice_text.proofs.Puts.{put_first}
use Rattle.hoa_write.proofs.Room.{bytes-tried, bytes-passed, text_is}
use Rattle.hoa_write.proofs.Rows.{called-table, called-slice, called-served}
use Rattle.hoa_write.proofs.write_read.Goals as goal

pub returns-in_err-table_row : goal.returns-in_err-table_row
returns-in_err-table_row c =
    let e : c.from_residual.result ≡ Err c.in_err-table_row.field-0.0 = search rules in
    rw e (called-table _ (bytes-tried _ _ _ (sym c.table_row.ensures ∙ c.in_err-table_row.was)))

pub fits-requires : goal.fits-requires
fits-requires c = (c.propositions_of-b.ensures.1, c.requires.1, bytes-passed _ _ _ (bytes-tried _ _ _ (sym c.table_row.ensures ∙ c.in_ok-table_row.was)))

pub returns-then-not-fits : goal.returns-then-not-fits
returns-then-not-fits c =
    let e = text_is c.args.s c.args.codes.now c.args.moves.now c.args.initial c.propositions_of-b.result c.propositions_of-b.ensures.0 in
    called-slice (bytes-tried _ _ _ (sym c.table_row.ensures ∙ c.in_ok-table_row.was)) (rw e (leb-false _ _ (sym c.fits.ensures ∙ c.if-not-fits.true)))

pub put_text-requires : goal.put_text-requires
put_text-requires c = (
  c.propositions_of-b.ensures.1,
  c.requires.1,
  (bytes-passed _ _ _ (bytes-tried _ _ _ (sym c.table_row.ensures ∙ c.in_ok-table_row.was))).transitions_ascend,
  leb-true _ _ (sym c.fits.ensures ∙ c.if-not-fits.false),
)

pub returns : goal.returns
returns c =
    let P = put_first c.put_text.ensures in
    let e = text_is c.args.s c.args.codes.now c.args.moves.now c.args.initial c.propositions_of-b.result c.propositions_of-b.ensures.0 in
    called-served (bytes-tried _ _ _ (sym c.table_row.ensures ∙ c.in_ok-table_row.was)) (rw e (leb-true _ _ (sym c.fits.ensures ∙ c.if-not-fits.false))) (P.0 ∙ ap length (sym e))
    (P.1 ∙ ap (λ (s : List ℕ). s ++ drop (length s) c.args.text.now) (sym e))
