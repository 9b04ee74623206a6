-- `tag_live` meets its contract: the numbers are noted before the tags come, and those that are dead lose their core after.
use Rattle.std.proofs.Common.{◌∙◌, arith}
use Rattle.theory.specs.Automaton.{automaton}
use Rattle.trim_spec.specs.Trimmed.{live_marks}
use Rattle.stricter_laws.proofs.OneParent.{table-inside}
use Rattle.stricter_laws.proofs.CoreTables.{codes-low}
use Rattle.stricter_spec.specs.Tags.{TaggedCodes, TaggedMoves}
use Rattle.stricter_tags.proofs.Live.{low-all, told-codes}
use Rattle.stricter_tags.proofs.tag_live.Goals as goal

pub note_live-requires : goal.note_live-requires
note_live-requires c = let ((r, s, T, few, e, f), long) = c.requires in (
  rw (e, f) (table-inside T.shaped.passing s (rw e at few)),
  low-all c.args.codes.now (rw e (codes-low T.shaped.passing s (rw e at few))),
  long,
)

pub returns : goal.returns
returns c = let n = c.note_live in let codes = c.args.codes.now in let moves = c.args.moves.now in λ r s T few e f.
    let (X, Y) = c.tag_table.ensures r s T (omega (arith, n.auto.codes)) (n.ensures.codes_unchanged ∙ e) f in
    let U : TaggedCodes codes _ = rw n.ensures.codes_unchanged at X in
    let W : TaggedMoves (automaton r) codes moves _ = rw n.ensures.codes_unchanged at Y in (
      told-codes (live_marks codes moves) U (low-all codes (rw e (codes-low T.shaped.passing s (rw e at few)))) (λ i l. n.ensures.filled.inside i (omega arith) l) c.bury.ensures,
      W,
    )
