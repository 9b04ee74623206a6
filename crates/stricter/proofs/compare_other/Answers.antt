-- `compare_other` meets its contract: 17 and 18 by the table of the words that B rejects, then the search.
use Rattle.std.proofs.Common.{refl, false}
use Rattle.stricter.proofs.Rooms.{refused-zero, lent_same, made-refused, made_row, made-ready, other-refused, other-served, pair_settles}
use Rattle.stricter.proofs.compare_other.Goals as goal

pub compare_tables-requires : goal.compare_tables-requires
compare_tables-requires c =
    let p = c.requires in let f = c.build_accepted in
    (p.0, made-ready c.args.b.now false p.1 (rw c.in-Ok.is at f.ensures) f.auto.codes f.auto.transitions, p.2)

pub returns-in-Err : goal.returns-in-Err
returns-in-Err c =
    let a = c.args in let z = c.zero_rooms.ensures in let E = made-refused (rw c.in-Err.is at c.build_accepted.ensures) in
    refused-zero (other-refused a.a.now a.b.now _ E) E.zeroes z.codes_after z.transitions_after E.codes-zero E.moves-zero refl refl

pub returns-in-Ok : goal.returns-in-Ok
returns-in-Ok c =
    let a = c.args in let f = c.build_accepted in let e = f.auto.codes in let d = f.auto.transitions in
    let row = made_row a.b.now false c.requires.1 (rw c.in-Ok.is at f.ensures) e d in
    lent_same (other-served a.a.now a.b.now _ f.new.codes f.new.transitions row) (pair_settles a.a.now a.b.now _) refl refl e d refl refl c.compare_tables.ensures
