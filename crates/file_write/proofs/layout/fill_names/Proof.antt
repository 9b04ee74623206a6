-- `file_write::layout::fill_names` meets its contract: the names, then 4E 4D.
use Prim.Native.Nat.{◌+◌, ◌≤◌}
use mathlib.Core.Path.{◌∙◌}
use native.Mathlib.Omega.{arith}
use borrow.Author.Rules.{rules}
use lib.ListN.{length}
use Rattle.slice_text.proofs.Puts.{put-paste}
use Rattle.file_write_spec.proofs.Laws.{length-preface}
use Rattle.file_write.proofs.Names.{fill_none, fill-some}
use Rattle.file_write.proofs.layout.fill_names.Statement.{statement}
use Rattle.file_write.proofs.layout.fill_names.Tie as tie

returns : tie.Need-returns-then-names-eq0
returns c = let start : tie.Start = search in let a = start.args in fill_none a.out.now a.names.now c.if-names-eq0.true

-- there is room for the names and 4E 4D
room : (c : tie.Else-names-eq0) → let start : tie.Start = search in length start.args.names.now + 2 ≤ length start.args.out.now
room c = let start : tie.Start = search in omega (arith, start.requires, (length-preface start.args.names.now).1 c.if-names-eq0.false)

returns-2 : tie.Need-returns
returns-2 c =
    let start : tie.Start = search in let a = start.args in let else1 : tie.Else-names-eq0 = search in let e = else1 in let at-put : tie.After-put = search in
    let at-put2 : tie.After-put-2 = search in put-paste at-put2.put-2.ensures ∙ rw (put-paste at-put.put.ensures) (fill-some a.out.now a.names.now e.if-names-eq0.false (room e))

pub fill_names_spec : {M : Type 1} → statement M
fill_names_spec = tie.close (tie.spec
    returns (λ c κs. omega (arith, room c.before))
    (λ c κs. omega (arith, room (search))) (λ c. search rules) returns-2)
