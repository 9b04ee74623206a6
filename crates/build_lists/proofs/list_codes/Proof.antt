-- `list_codes` meets its contract: the reachable codes within the room, and zeros from there on.
use mathlib.Core.Path.{◌≡◌, sym}
use native.Mathlib.Omega.{arith}
use lib.ListN.{drop}
use mathlib.Core.List.{◌++◌}
use lib.Seq.{length-take-le}
use Rattle.theory.specs.TableComputed.{macrostates_from}
use Rattle.slice_search.specs.Places.{zeroed_from}
use Rattle.build_spec.specs.Keys.{start_of}
use Rattle.build_lists.proofs.Room.{room_fits, room_most}
use Rattle.build_lists.proofs.Padding.{whole, fits_whole, padded-full, padded}
use borrow.Author.Rules.{rules}
use Rattle.build_lists.proofs.list_codes.Statement.{statement}
use Rattle.build_lists.proofs.list_codes.Tie as tie

slice-aggregate-reachable : tie.Need-slice_bounds-reachable-end-2
slice-aggregate-reachable c = let start : tie.Start = search in sym (length-take-le c.before.room_of-room.result start.args.codes.now (room_fits _ _ _ c.before.room_of-room.ensures))

reachable-requires : tie.Need-reachable-g-requires
reachable-requires c κs = let start : tie.Start = search in let xs = start.args.codes.now in let room = c.before.room_of-room in
    (start.requires, omega (arith, length-take-le room.result xs (room_fits _ _ _ room.ensures), room_most _ _ _ room.ensures))

returns : tie.Need-returns-then-g
returns c =
    let start : tie.Start = search in let a = start.args in let at-reachable : tie.After-reachable-g = search in let g = at-reachable.reachable-g in
    let at-room-of : tie.After-room_of-room = search in λ r T.
    padded-full _ at-room-of.room_of-room.result a.codes.now g.new.codes at-room-of.room_of-room.ensures (g.ensures r T).long
    (macrostates_from r (start_of r a.shape.holds)) g.result.m g.result.full c.if-g.true ((g.ensures r T).crowded c.if-g.true)

zero-from-requires : tie.Need-zero_from-requires
zero-from-requires c κs =
    let start : tie.Start = search in let xs = start.args.codes.now in let at-reachable : tie.After-reachable-g = search in let g = at-reachable.reachable-g in
    let at-room-of : tie.After-room_of-room = search in let room = at-room-of.room_of-room in let L = g.ensures start.requires.0 start.requires.1 in
    let long = whole _ room.result xs g.new.codes room.ensures L.long in let few = room_fits _ _ _ room.ensures in
    let fits = fits_whole _ room.result xs g.new.codes room.ensures L.long g.result.m L.fits in omega arith

returns-2 : tie.Need-returns
returns-2 c =
    let start : tie.Start = search in let a = start.args in let at-reachable : tie.After-reachable-g = search in let g = at-reachable.reachable-g in
    let at-room-of : tie.After-room_of-room = search in let room = at-room-of.room_of-room in let at-zero-from : tie.After-zero_from = search in
    let zeros : at-zero-from.zero_from.new.xs ≡ zeroed_from g.result.m (g.new.codes ++ drop room.result a.codes.now) = at-zero-from.zero_from.ensures in
    let else1 : tie.Else-g = search in λ r T. let L = g.ensures r T in
    padded _ room.result a.codes.now g.new.codes room.ensures L.long (macrostates_from r (start_of r a.shape.holds)) g.result.m L.fits
    (L.listed else1.if-g.false) at-zero-from.zero_from.new.xs zeros

pub list_codes_spec : {M : Type 1} → statement M
list_codes_spec = tie.close (tie.spec
    (λ c κs. search rules) (λ c. room_fits _ _ _ c.room_of-room.ensures) slice-aggregate-reachable reachable-requires (λ c. search rules) returns
    zero-from-requires (λ c. search rules) returns-2)
