-- `judge_lent` meets its contract: the word's rows, the table's and the slice's, then the search, and zeros.
use Rattle.std.proofs.Common.{◌≡◌, ℕ, ◌*◌, length, sym, ap, ◌∙◌, arith, rules, length-take-le}
use Rattle.std.specs.Prelude.{Err, replicate}
use Rattle.theory.specs.Word.{places}
use Rattle.table_lent.specs.Lent.{in_both}
use Rattle.table_call.proofs.Calls.{called-refused, called-yes, called-no}
use Rattle.table_call.proofs.CallRows.{word-refuses, table-refuses, scratch-refuses, call-served, few-marks, ready}
use Rattle.table_call.proofs.judge_lent.Goals as goal

pub returns-in_err-word_row : goal.returns-in_err-word_row
returns-in_err-word_row c =
    let e : c.from_residual.result ≡ Err c.in_err-word_row.field-0.0 = search rules in
    rw e (called-refused _ (word-refuses _ _ _ _ _ _ _ (sym c.word_row.ensures ∙ c.in_err-word_row.was)))

pub returns-in_err-table_row : goal.returns-in_err-table_row
returns-in_err-table_row c =
    let e : c.from_residual-in_err-table_row.result ≡ Err c.in_err-table_row.field-0.0 = search rules in
    rw e (called-refused _ (table-refuses _ _ _ _ _ _ _ (sym c.word_row.ensures ∙ c.in_ok-word_row.was) (sym c.table_row.ensures ∙ c.in_err-table_row.was)))

pub overflow_mul-used : goal.overflow_mul-used
overflow_mul-used c =
    rw c.count-n.ensures (omega (arith, few-marks c.args.h.s c.args.lead.now c.args.cycle.now _ _ (sym c.word_row.ensures ∙ c.in_ok-word_row.was) (sym c.table_row.ensures ∙ c.in_ok-table_row.was)))

pub returns-then-scratch-used : goal.returns-then-scratch-used
returns-then-scratch-used c =
    let used = ap (λ (n : ℕ). n * places c.args.lead.now c.args.cycle.now) c.count-n.ensures in
    called-refused _ (scratch-refuses _ _ _ _ _ _ (sym c.word_row.ensures ∙ c.in_ok-word_row.was) (sym c.table_row.ensures ∙ c.in_ok-table_row.was) (omega (arith, used, c.if-scratch-used.true)))

pub search-m-requires : goal.search-m-requires
search-m-requires c = (
  c.requires,
  ready c.args.h.s c.args.lead.now c.args.cycle.now _ _ (sym c.word_row.ensures ∙ c.in_ok-word_row.was) (sym c.table_row.ensures ∙ c.in_ok-table_row.was) _
      (length-take-le _ c.args.scratch.now c.if-scratch-used.false ∙ ap (λ (n : ℕ). n * places c.args.lead.now c.args.cycle.now) c.count-n.ensures),
)

pub returns-then-m-n : goal.returns-then-m-n
returns-then-m-n c =
    let used = ap (λ (n : ℕ). n * places c.args.lead.now c.args.cycle.now) c.count-n.ensures in
    let k : length c.fill_with.new.xs ≡ length c.args.scratch.now = search rules in
    let zeros : c.fill_with.new.xs ≡ replicate (length c.args.scratch.now) 0 = c.fill_with.ensures ∙ ap (λ (n : ℕ). replicate n 0) (sym c.fill_with.auto.xs ∙ k) in
    rw zeros (called-yes (call-served _ _ _ _ _ _ (sym c.word_row.ensures ∙ c.in_ok-word_row.was) (sym c.table_row.ensures ∙ c.in_ok-table_row.was) (omega (arith, used, c.if-scratch-used.false)))
    c.search-m.ensures (omega (arith, c.count-n.ensures, c.if-m-n.true)))

pub returns : goal.returns
returns c =
    let used = ap (λ (n : ℕ). n * places c.args.lead.now c.args.cycle.now) c.count-n.ensures in
    let k : length c.fill_with.new.xs ≡ length c.args.scratch.now = search rules in
    let zeros : c.fill_with.new.xs ≡ replicate (length c.args.scratch.now) 0 = c.fill_with.ensures ∙ ap (λ (n : ℕ). replicate n 0) (sym c.fill_with.auto.xs ∙ k) in
    rw zeros (called-no (call-served _ _ _ _ _ _ (sym c.word_row.ensures ∙ c.in_ok-word_row.was) (sym c.table_row.ensures ∙ c.in_ok-table_row.was) (omega (arith, used, c.if-scratch-used.false)))
    c.search-m.ensures (omega (arith, c.count-n.ensures, c.if-m-n.false)))
