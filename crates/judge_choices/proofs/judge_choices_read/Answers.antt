-- `judge_choices_read` meets its contract: the row that refuses, or both slices and the initial state's bit.
use Rattle.std.proofs.Common.{◌≡◌, length, sym, ap, ◌∙◌, arith, rules}
use Rattle.std.specs.Prelude.{Err}
use lib.ListN.{length-append}
use Rattle.theory_laws.proofs.Truth.{truth-length}
use Rattle.rule_entries.specs.Entries.{rule_of}
use Rattle.word_rows.proofs.Checks.{passed-over}
use Rattle.judge_choices.proofs.Calls.{places-few, bytes-few, word-refuses, masks-refuse, choices-refuse, call-served, called-refused, called-served}
use Rattle.judge_choices.proofs.judge_choices_read.Goals as goal

pub returns-in_err-word_row : goal.returns-in_err-word_row
returns-in_err-word_row c =
    let e : c.from_residual.result ≡ Err c.in_err-word_row.field-0.0 = search rules in
    let r = rule_of c.args.h c.args.counts.now c.args.clauses.now in
    rw e (called-refused r _ _ _ _ _ (word-refuses r _ _ _ _ _ (sym c.word_row.ensures ∙ c.in_err-word_row.was)))

pub returns-then-masks-places : goal.returns-then-masks-places
returns-then-masks-places c =
    let r = rule_of c.args.h c.args.counts.now c.args.clauses.now in
    called-refused r _ _ _ _ _ (masks-refuse r _ _ _ _ (sym c.word_row.ensures ∙ c.in_ok-word_row.was) c.if-masks-places.true)

pub overflow_mul-places : goal.overflow_mul-places
overflow_mul-places c =
    omega (arith, bytes-few c.args.h.n c.args.h.s c.args.lead.now c.args.cycle.now (sym c.word_row.ensures ∙ c.in_ok-word_row.was) c.requires.formed.few_states)

pub returns-then-choices-places : goal.returns-then-choices-places
returns-then-choices-places c =
    let r = rule_of c.args.h c.args.counts.now c.args.clauses.now in
    called-refused r _ _ _ _ _
    (choices-refuse r _ _ _ _ (sym c.word_row.ensures ∙ c.in_ok-word_row.was) c.if-masks-places.false (omega (arith, c.if-choices-places.true)))

pub fill_both-requires : goal.fill_both-requires
fill_both-requires c =
    let passed = sym c.word_row.ensures ∙ c.in_ok-word_row.was in (
      c.requires,
      passed-over c.args.h.s _ _ passed,
      places-few c.args.h.s _ _ passed,
      c.if-masks-places.false,
      omega (arith, c.if-choices-places.false),
    )

pub bounds-masks-0 : goal.bounds-masks-0
bounds-masks-0 c =
    let w = passed-over c.args.h.s _ _ (sym c.word_row.ensures ∙ c.in_ok-word_row.was) in
    omega (arith, simp length-append at (ap length c.fill_both.ensures.0), truth-length (rule_of c.args.h c.args.counts.now c.args.clauses.now) c.args.lead.now c.args.cycle.now, w.repeats)

pub returns : goal.returns
returns c =
    let passed = sym c.word_row.ensures ∙ c.in_ok-word_row.was in
    let r = rule_of c.args.h c.args.counts.now c.args.clauses.now in
    called-served r _ _ _ _ (call-served r _ _ _ _ passed c.if-masks-places.false (omega (arith, c.if-choices-places.false))) _ _ c.fill_both.ensures.0 c.fill_both.ensures.1
    (passed-over c.args.h.s _ _ passed).repeats c.contains.result (sym c.contains.ensures)
