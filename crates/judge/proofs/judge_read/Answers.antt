-- `judge_read` meets its contract: the row that refuses, or the masks and the initial state's bit.
use Rattle.std.proofs.Common.{◌≡◌, length, sym, ap, ◌∙◌, arith, rules}
use Rattle.std.specs.Prelude.{Err}
use lib.ListN.{length-append}
use Rattle.theory_laws.proofs.Truth.{truth-length}
use Rattle.rule_entries.specs.Entries.{rule_of}
use Rattle.word_rows.proofs.Checks.{passed-over}
use Rattle.judge_spec.proofs.Rows.{word-refuses, slice-refuses, call-served}
use Rattle.judge_spec.proofs.Meaning.{called-refused, called-served}
use Rattle.judge.proofs.judge_read.Goals as goal

pub returns-in_err-word_row : goal.returns-in_err-word_row
returns-in_err-word_row c =
    let e : c.from_residual.result ≡ Err c.in_err-word_row.field-0.0 = search rules in
    let r = rule_of c.args.h c.args.counts.now c.args.clauses.now in
    rw e (called-refused r _ _ _ _ (word-refuses r _ _ _ _ (sym c.word_row.ensures ∙ c.in_err-word_row.was)))

pub returns-then-masks-lead : goal.returns-then-masks-lead
returns-then-masks-lead c =
    let r = rule_of c.args.h c.args.counts.now c.args.clauses.now in
    called-refused r _ _ _ _ (slice-refuses r _ _ _ (sym c.word_row.ensures ∙ c.in_ok-word_row.was) c.if-masks-lead.true)

pub fill-requires : goal.fill-requires
fill-requires c = (c.requires, passed-over c.args.h.s _ _ (sym c.word_row.ensures ∙ c.in_ok-word_row.was), c.if-masks-lead.false)

pub bounds-masks-0 : goal.bounds-masks-0
bounds-masks-0 c =
    let w = passed-over c.args.h.s _ _ (sym c.word_row.ensures ∙ c.in_ok-word_row.was) in
    omega (arith, simp length-append at (ap length c.fill.ensures), truth-length (rule_of c.args.h c.args.counts.now c.args.clauses.now) c.args.lead.now c.args.cycle.now, w.repeats)

pub returns : goal.returns
returns c =
    let passed = sym c.word_row.ensures ∙ c.in_ok-word_row.was in
    let r = rule_of c.args.h c.args.counts.now c.args.clauses.now in
    called-served r _ _ _ (call-served r _ _ _ passed c.if-masks-lead.false) _ c.fill.ensures (passed-over c.args.h.s _ _ passed).repeats
    c.contains.result (sym c.contains.ensures)
