-- `note_live` meets its contract: the marks above the codes are noted, and go.
use Rattle.std.proofs.Common.{◌∙◌}
use Rattle.trim_spec.specs.Trimmed.{live_marks}
use Rattle.stricter_tags.proofs.Live.{low-lows, noted}
use Rattle.stricter_tags.proofs.note_live.Goals as goal

pub returns-clause-codes_unchanged : goal.returns-clause-codes_unchanged
returns-clause-codes_unchanged c = c.strip.ensures ∙ low-lows _ ∙ c.mark_live.ensures.1

pub returns-clause-filled : goal.returns-clause-filled
returns-clause-filled c = noted _ (live_marks c.args.codes.now c.args.moves.now) _ c.mark_live.ensures.0 c.mark_live.auto.codes c.note_marks.ensures
