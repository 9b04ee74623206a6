-- `live_call::count` meets its contract: the set shown and the letters counted.
use mathlib.Core.Path.{refl, sym}
use Prim.Native.Nat.{◌/◌}
use native.Mathlib.Omega.{arith}
use lib.ListN.{length}
use Rattle.table_lent.specs.Lent.{words_in}
use Rattle.table_lent.proofs.Reading.{words-in-length}
use Rattle.live_call.proofs.Effects.{counted}
use borrow.Author.Rules.{rules}
use Rattle.live_call.proofs.count.Statement.{statement}
use Rattle.live_call.proofs.count.Tie as tie

show-set-requires : tie.Need-show_set-macrostates-requires
show-set-requires c κs = let start : tie.Start = search in let w = words-in-length start.args.codes.now in (omega (arith, start.requires.0), omega (arith, start.requires.1))

returns : tie.Need-returns
returns c =
    let start : tie.Start = search in let a = start.args in let at-show-set : tie.After-show_set-macrostates = search in let e = at-show-set.show_set-macrostates.ensures in
    counted (length (words_in a.codes.now)) (length a.codes.now / 8) a.state.now a.set.now a.state.now _ _ _ (sym (words-in-length a.codes.now)) refl e.0 e.1
    c.number_at-letters.ensures

pub count_spec : {M : Type 1} → statement M
count_spec = tie.close (tie.spec show-set-requires (λ c κs. search rules) (λ c. search rules) returns)
