-- `mark_files` meets its contract: both tables are tagged while the pairs of cores are sorted out, and the tags go again.
use mathlib.Core.Path.{refl, ◌∙◌}
use native.Mathlib.Omega.{arith}
use lib.ListN.{length}
use borrow.Author.Rules.{rules}
use Rattle.theory.specs.Macrostate.{holds_initial}
use Rattle.rejecting_spec.specs.Rejecting.{lacks_initial}
use Rattle.stricter_marks.proofs.Tables.{few_components, rows-low, stands, fits, sorted, codes-again, moves-again}
use Rattle.stricter_search.proofs.FileTables.{initial-low, no_pairs, room-A, room-B, file-table}
use Rattle.stricter_search.proofs.files.mark_files.Statement.{statement}
use Rattle.stricter_search.proofs.files.mark_files.Tie as tie

abbrev at-tag-file2-of : tie.After-mark_tagged → tie.After-tag_file-bcount
at-tag-file2-of c = search

abbrev at-tag-file-of : tie.After-tag_file-bcount → tie.After-tag_file-acount
at-tag-file-of c = search

abbrev else1-of : tie.After-tag_file-acount → tie.Else-marks-eq0
else1-of c = search

abbrev start_of : tie.After-tag_file-acount → tie.Start
start_of c = search

returns : tie.Need-returns-then-marks-eq0
returns c = let start : tie.Start = search in let a = start.args in
    (no_pairs a.acodes.now a.amoves.now _ a.bcodes.now a.bmoves.now _ a.marks.now start.requires.2 c.if-marks-eq0.true, ((refl, refl), (refl, refl)))

tag-file-requires : tie.Need-tag_file-acount-requires
tag-file-requires c κs = let start : tie.Start = search in let a = start.args in let p = start.requires in let else1 : tie.Else-marks-eq0 = search in
    ((holds_initial, p.0), room-A (length a.acodes.now) (length a.bcodes.now) _ p.2 else1.if-marks-eq0.false)

tag-file-requires-2 : tie.Need-tag_file-bcount-requires
tag-file-requires-2 c κs =
    let at-tag-file : tie.After-tag_file-acount = search in let start = start_of at-tag-file in let a = start.args in let p = start.requires in
    let h = room-B (length a.acodes.now) (length a.bcodes.now) (length a.marks.now) p.2 (else1-of at-tag-file).if-marks-eq0.false in
    ((lacks_initial, p.1), omega (arith, h, at-tag-file.tag_file-acount.auto))

mark-tagged-requires : tie.Need-mark_tagged-requires
mark-tagged-requires c κs =
    let at-tag-file2 : tie.After-tag_file-bcount = search in let at-tag-file = at-tag-file-of at-tag-file2 in let p = (start_of at-tag-file).requires in
    let (x, u) = at-tag-file.tag_file-acount.ensures in let (y, v) = at-tag-file2.tag_file-bcount.ensures in
    let A = file-table p.0 x in let B = file-table p.1 y in (
      (
        fits A B u.0 u.1 v.0 v.1 _ (omega (arith, at-tag-file2.tag_file-bcount.auto, at-tag-file.tag_file-acount.auto, p.2)),
        stands A u.0 u.1,
        stands B v.0 v.1,
        few_components A,
        few_components B,
        initial-low p.0,
        initial-low p.1,
      ),
      rows-low B v.0 v.1,
    )

same_length : tie.Need-shape_of-acodes
same_length c = let at-mark-tagged : tie.After-mark_tagged = search in
    omega (arith, at-mark-tagged.mark_tagged.auto, (at-tag-file-of (at-tag-file2-of at-mark-tagged)).tag_file-acount.auto)

same-length-2 : tie.Need-shape_of-amoves
same-length-2 c = let at-mark-tagged : tie.After-mark_tagged = search in
    omega (arith, at-mark-tagged.mark_tagged.auto, (at-tag-file-of (at-tag-file2-of at-mark-tagged)).tag_file-acount.auto)

same-length-5 : tie.Need-shape_of-marks
same-length-5 c = let at-mark-tagged : tie.After-mark_tagged = search in let at-tag-file2 = at-tag-file2-of at-mark-tagged in
    omega (arith, at-mark-tagged.mark_tagged.auto, at-tag-file2.tag_file-bcount.auto, (at-tag-file-of at-tag-file2).tag_file-acount.auto)

returns-2 : tie.Need-returns
returns-2 c =
    let at-mark-tagged : tie.After-mark_tagged = search in let at-tag-file2 = at-tag-file2-of at-mark-tagged in
    let at-tag-file = at-tag-file-of at-tag-file2 in let p = (start_of at-tag-file).requires in
    let (x, u) = at-tag-file.tag_file-acount.ensures in let (y, v) = at-tag-file2.tag_file-bcount.ensures in
    let A = file-table p.0 x in let B = file-table p.1 y in
    let (marks, ((acodes, amoves), (bcodes, bmoves))) = at-mark-tagged.mark_tagged.ensures in (
      sorted A B u.0 u.1 v.0 v.1 _ _ (initial-low p.0) (initial-low p.1) (same-length-5 c ∙ p.2) marks,
      (
        (acodes ∙ codes-again A u.0 u.1, amoves ∙ moves-again A u.0 u.1),
        (bcodes ∙ codes-again B v.0 v.1, bmoves ∙ moves-again B v.0 v.1),
      ),
    )

pub mark_files_spec : {M : Type 1} → statement M
mark_files_spec = tie.close (tie.spec
    returns tag-file-requires tag-file-requires-2 (λ c. let start : tie.Start = search in omega (arith, initial-low start.requires.0))
    (λ c. let start : tie.Start = search in omega (arith, initial-low start.requires.1)) mark-tagged-requires same_length same-length-2 (λ c. search rules) (λ c. search rules)
    same-length-5 returns-2)
