-- `list_transitions` meets its contract: the transitions within the room, and zeros from there on.
use mathlib.Core.Path.{◌≡◌, sym, ap, ◌∙◌}
use mathlib.Core.List.{List, ◌++◌}
use native.Mathlib.Omega.{arith}
use Prim.Native.Nat.{ℕ}
use lib.ListN.{take, drop, take-append-drop}
use lib.Seq.{length-take-le}
use Rattle.theory.specs.TableComputed.{transitions_from}
use Rattle.slice_search.specs.Places.{zeroed_from}
use Rattle.build_spec.specs.Keys.{start_of}
use Rattle.build_lists.proofs.Room.{room_fits}
use Rattle.build_lists.proofs.Padding.{whole, fits_whole, padded-full, padded}
use borrow.Author.Rules.{rules}
use Rattle.build_lists.proofs.list_transitions.Statement.{statement}
use Rattle.build_lists.proofs.list_transitions.Tie as tie

slice-aggregate-transitions : tie.Need-slice_bounds-transitions-end-2
slice-aggregate-transitions c = let start : tie.Start = search in sym (length-take-le c.before.room_of-room.result start.args.out.now (room_fits _ _ _ c.before.room_of-room.ensures))

slice-aggregate-transitions-2 : tie.Need-slice_bounds-transitions-end-4
slice-aggregate-transitions-2 c = let start : tie.Start = search in sym (length-take-le start.args.n start.args.codes.now
    start.requires.2.fits)

transitions-requires : tie.Need-transitions-g-requires
transitions-requires c κs =
    let start : tie.Start = search in let a = start.args in let p = start.requires in ((p.0, p.1, p.2.listed), omega (arith, length-take-le a.n a.codes.now p.2.fits, p.2.few))

-- the codes as they were
kept : (n : ℕ) (xs ys : List ℕ) → ys ≡ take n xs → ys ++ drop n xs ≡ xs
kept n xs ys e = ap (λ (l : List ℕ). l ++ drop n xs) e ∙ take-append-drop n xs

returns : tie.Need-returns-then-g
returns c =
    let start : tie.Start = search in let a = start.args in let at-transitions : tie.After-transitions-g = search in let g = at-transitions.transitions-g in
    let at-room-of : tie.After-room_of-room = search in let room = at-room-of.room_of-room in (
      kept a.n a.codes.now g.new.codes g.ensures.0,
      λ r T C.
          padded-full _ room.result a.out.now g.new.out room.ensures g.auto.out (transitions_from r (start_of r a.shape.holds)) g.result.m g.result.full c.if-g.true
          ((g.ensures.1 r T C.listed).crowded c.if-g.true),
    )

zero-from-requires : tie.Need-zero_from-requires
zero-from-requires c κs =
    let start : tie.Start = search in let a = start.args in let p = start.requires in let at-transitions : tie.After-transitions-g = search in let g = at-transitions.transitions-g in
    let at-room-of : tie.After-room_of-room = search in let room = at-room-of.room_of-room in let long = whole _ room.result a.out.now g.new.out room.ensures g.auto.out in
    let few = room_fits _ _ _ room.ensures in
    let fits = fits_whole _ room.result a.out.now g.new.out room.ensures g.auto.out g.result.m (g.ensures.1 p.0 p.1 p.2.listed).fits in omega arith

returns-2 : tie.Need-returns
returns-2 c =
    let start : tie.Start = search in let a = start.args in let at-transitions : tie.After-transitions-g = search in let g = at-transitions.transitions-g in
    let at-room-of : tie.After-room_of-room = search in let room = at-room-of.room_of-room in let at-zero-from : tie.After-zero_from = search in
    let zeros : at-zero-from.zero_from.new.xs ≡ zeroed_from g.result.m (g.new.out ++ drop room.result a.out.now) = at-zero-from.zero_from.ensures in
    let else1 : tie.Else-g = search in (
      kept a.n a.codes.now g.new.codes g.ensures.0,
      λ r T C. let L = g.ensures.1 r T C.listed in
          padded _ room.result a.out.now g.new.out room.ensures g.auto.out (transitions_from r (start_of r a.shape.holds)) g.result.m L.fits
          (L.listed else1.if-g.false) at-zero-from.zero_from.new.xs zeros,
    )

pub list_transitions_spec : {M : Type 1} → statement M
list_transitions_spec = tie.close (tie.spec
    (λ c κs. search rules) (λ c. room_fits _ _ _ c.room_of-room.ensures) slice-aggregate-transitions (λ c. search rules) slice-aggregate-transitions-2
    transitions-requires (λ c. search rules) (λ c. search rules) returns zero-from-requires (λ c. search rules) (λ c. search rules) returns-2)
