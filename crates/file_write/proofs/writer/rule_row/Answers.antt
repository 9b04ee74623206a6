-- `file_write::writer::rule_row` meets its contract: numbers that pass have few entries.
use Rattle.std.proofs.Common.{sym, arith}
use Rattle.file_write_spec.proofs.Laws.{ranges_by}
use Rattle.file_write.proofs.writer.rule_row.Goals as goal

pub overflow_mul-n : goal.overflow_mul-n
overflow_mul-n c = omega (arith, ranges_by c.args.h (sym c.in_ok-numbers_row.ensures))

pub lists_row-requires : goal.lists_row-requires
lists_row-requires c = let r = ranges_by c.args.h (sym c.in_ok-numbers_row.ensures) in (r.few_states, omega (arith, r.few-entries))
