-- `file_write::writer::write_head` meets its contract: the rows of the rule, of the names and of the slice, then the file.
use Rattle.std.proofs.Common.{◌≡◌, ◌+◌, ◌<◌, ◌≤◌, ℕ, length, sym, ◌∙◌, ap, arith, rules, Ok, Err}
use Rattle.file_spec.specs.Names.{preface_from}
use Rattle.file_write_spec.proofs.Laws.{Sized, sized, preface-most, by-rule, by_names, by-room, done}
use Rattle.file_write.proofs.Names.{names-few}
use Rattle.file_write.proofs.writer.write_head.Goals as goal

pub returns-in_err-rule_row : goal.returns-in_err-rule_row
returns-in_err-rule_row c =
    let a = c.args in
    let e : c.from_residual.result ≡ Err c.in_err-rule_row.field-0.0 = search rules in
    let s = by-rule a.h a.counts.now a.clauses.now a.names.now a.out.now _ (sym c.in_err-rule_row.ensures) in
    record { value = e ∙ s.0; out_after = s.1 }

pub given_row-requires : goal.given_row-requires
given_row-requires c = (sized c.args.h c.args.counts.now c.args.clauses.now (sym c.in_ok-rule_row.ensures)).few_letters

pub returns-in_err-given_row : goal.returns-in_err-given_row
returns-in_err-given_row c =
    let a = c.args in
    let e : c.from_residual-in_err-given_row.result ≡ Err c.in_err-given_row.field-0.0 = search rules in
    let s = by_names a.h a.counts.now a.clauses.now a.names.now a.out.now (sym c.in_ok-rule_row.ensures) _ (sym c.in_err-given_row.ensures) in
    record { value = e ∙ s.0; out_after = s.1 }

pub preface_length-at-requires : goal.preface_length-at-requires
preface_length-at-requires c =
    let a = c.args in let z = sized a.h a.counts.now a.clauses.now (sym c.in_ok-rule_row.ensures) in names-few a.h.s a.names.now z.few_letters (sym c.in_ok-given_row.ensures)

pub overflow_add-length : goal.overflow_add-length
overflow_add-length c =
    let a = c.args in
    let z = sized a.h a.counts.now a.clauses.now (sym c.in_ok-rule_row.ensures) in
    omega (arith, z.in_bytes, preface-most a.names.now, names-few a.h.s a.names.now z.few_letters (sym c.in_ok-given_row.ensures))

pub overflow_add-length-2 : goal.overflow_add-length-2
overflow_add-length-2 c =
    let a = c.args in
    let z = sized a.h a.counts.now a.clauses.now (sym c.in_ok-rule_row.ensures) in
    omega (arith, z, z.in_bytes, preface-most a.names.now, names-few a.h.s a.names.now z.few_letters (sym c.in_ok-given_row.ensures))

pub overflow_add-length-3 : goal.overflow_add-length-3
overflow_add-length-3 c =
    let a = c.args in
    let z = sized a.h a.counts.now a.clauses.now (sym c.in_ok-rule_row.ensures) in
    omega (arith, z, z.in_bytes, preface-most a.names.now, names-few a.h.s a.names.now z.few_letters (sym c.in_ok-given_row.ensures))

pub returns-then-out-length : goal.returns-then-out-length
returns-then-out-length c =
    let a = c.args in
    let few : length a.out.now < length (preface_from a.names.now) + length a.clauses.now + length a.counts.now + 8 = omega (arith, c.preface_length-at.ensures) in
    let s = by-room a.h a.counts.now a.clauses.now a.names.now a.out.now (sym c.in_ok-rule_row.ensures) (sym c.in_ok-given_row.ensures) few in
    record { value = s.0; out_after = s.1 }

pub fill-requires : goal.fill-requires
fill-requires c = let a = c.args in ((sized a.h a.counts.now a.clauses.now (sym c.in_ok-rule_row.ensures)).in_bytes, c.preface_length-at.ensures, omega arith)

pub returns : goal.returns
returns c =
    let a = c.args in
    let room : length (preface_from a.names.now) + length a.clauses.now + length a.counts.now + 8 ≤ length a.out.now = omega (arith, c.preface_length-at.ensures) in
    let d = done a.h a.counts.now a.clauses.now a.names.now a.out.now (sym c.in_ok-rule_row.ensures) (sym c.in_ok-given_row.ensures) room in
    let l : c.preface_length-at.result + length a.clauses.now + length a.counts.now + 8 ≡ length (preface_from a.names.now) + length a.clauses.now + length a.counts.now + 8 = omega (arith, c.preface_length-at.ensures) in
    record { value = ap Ok l ∙ d.0; out_after = c.fill.ensures ∙ d.1 }
