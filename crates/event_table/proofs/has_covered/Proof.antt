-- `event_table::has_covered` meets its contract.
use mathlib.Core.Path.{◌∙◌, ap}
use Prim.Native.Nat.{ℕ}
use native.Mathlib.Omega.{arith}
use lib.Dec.{ltb}
use lib.Count.{ones, ones-le}
use Rattle.event_spec.specs.Events.{line_count}
use Rattle.event_table.proofs.Covers.{covered-is}
use borrow.Author.Rules.{rules}
use Rattle.event_table.proofs.has_covered.Statement.{statement}
use Rattle.event_table.proofs.has_covered.Tie as tie

returns : tie.Need-returns
returns c = let start : tie.Start = search in let a = start.args in
    ap (λ (m : ℕ). ltb (ones m) (line_count a.events.now)) c.firsts.ensures
    ∙ covered-is a.events.now a.kinds.now a.drives.now (λ i. (c.before.shared_slice_known-1.given i).fits) start.requires

pub has_covered_spec : {M : Type 1} → statement M
has_covered_spec = tie.close (tie.spec (λ c κs. search rules) (λ c. omega (arith, ones-le 64 c.firsts.result (omega arith))) returns)
