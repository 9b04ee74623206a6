-- `is_faulty_table` meets its contract: a table of whole lines, not too many, and what `any` answers over them. A list read at j lets the
-- search take what the range gives there.
use Rattle.std.proofs.Common.{rules, ◌≡◌, get_or, refl, sym, ◌∙◌}
use Rattle.std.proofs.iter.runs.Sources.{ranges}
use Rattle.sets.proofs.Chains.{some_is}
use Rattle.event_spec.specs.Events.{line_count}
use Rattle.event_spec.specs.Translation.{faulty}
use Rattle.event_table.proofs.Faults.{table-ragged, table-long, table-lines}
use Rattle.event_table.proofs.is_faulty_table.Goals as goal

pub returns-then-events-ne0 : goal.returns-then-events-ne0
returns-then-events-ne0 c = sym (table-ragged _ _ c.if-events-ne0.true)

pub returns-then-n-gt64 : goal.returns-then-n-gt64
returns-then-n-gt64 c = sym (table-long _ _ c.if-n-gt64.true)

pub returns : goal.returns
returns c = let a = c.args in some_is (line_count a.events.now) (faulty a.s a.events.now) c.any.result (search (rules, ranges))
    (λ e j l. let at : get_or a.events.now j 0 ≡ get_or a.events.now j 0 = refl in search (rules, ranges))
    ∙ table-lines a.s a.events.now c.if-events-ne0.false c.if-n-gt64.false
