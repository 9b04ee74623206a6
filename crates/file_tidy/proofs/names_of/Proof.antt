-- `file_tidy::names_of` meets its contract.
use Prim.Native.Nat.{ℕ}
use mathlib.Core.Path.{◌≡◌}
use mathlib.Core.List.{List}
use Rattle.refusals.specs.Rows.{first_row}
use Rattle.file_spec.specs.File.{trailer, part_before_lem}
use Rattle.file_spec.proofs.Names.{fit-21}
use Rattle.file_spec.proofs.TrailerRows.{Placed}
use Rattle.file_tidy_spec.specs.Tidied.{tidy_rows}
use Rattle.file_tidy_spec.proofs.Laws.{tidy-laid, tidy-preface}
use Rattle.file_tidy.proofs.Parts.{laid_out}
use Rattle.file_tidy.proofs.names_of.Statement.{statement}
use Rattle.file_tidy.proofs.names_of.Tie as tie

known : (f : List ℕ) → first_row (tidy_rows f) ≡ 0 → Placed f
known f e = laid_out f (tidy-laid f e)

part-before-requires : tie.Need-part_before-requires
part-before-requires c κs = let start : tie.Start = search in let p = known start.args.f.now start.requires in (p.long, p.fits)

names-in-requires : tie.Need-names_in-requires
names-in-requires c κs = let start : tie.Start = search in let f = start.args.f.now in let e = start.requires in
    rw (c.before.read_head-h.ensures, c.part_before.ensures) ((known f e).ranges.few_letters, fit-21 (trailer f 1) (part_before_lem f) (tidy-preface f e))

returns : tie.Need-returns
returns c = let at-read-head : tie.After-read_head-h = search in rw (at-read-head.read_head-h.ensures, c.before.part_before.ensures) at c.names_in.ensures

pub names_of_spec : {M : Type 1} → statement M
names_of_spec = tie.close (tie.spec (λ c κs. (known c.before.args.f.now c.before.requires).long) part-before-requires names-in-requires returns)
