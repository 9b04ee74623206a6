-- `compare_files` meets its contract: 28, then 17 and 18 by A's table, then what is left once it is built.
use Rattle.std.proofs.Common.{refl, sym, ◌∙◌, true}
use Rattle.stricter.proofs.Rooms.{refused-zero, lent_same, made-refused, made_row, made-ready, file-letters, different, own-refused, own-served, other-settles}
use Rattle.stricter.proofs.compare_files.Goals as goal

pub returns-then-l-m : goal.returns-then-l-m
returns-then-l-m c = let a = c.args in let p = c.requires in
    different a.a.now a.b.now _ (λ e. c.if-l-m.true (file-letters a.a.now p.0 ∙ e ∙ sym (file-letters a.b.now p.1)))

pub compare_other-requires : goal.compare_other-requires
compare_other-requires c = let a = c.args in let p = c.requires in let f = c.build_accepted in (
  made-ready a.a.now true p.0 (rw c.in-Ok.is at f.ensures) f.auto.codes f.auto.transitions,
  p.1,
  sym (file-letters a.a.now p.0) ∙ c.if-l-m.false ∙ file-letters a.b.now p.1,
)

pub returns-in-Err : goal.returns-in-Err
returns-in-Err c =
    let a = c.args in let p = c.requires in let z = c.zero_rooms.ensures in let E = made-refused (rw c.in-Err.is at c.build_accepted.ensures) in
    let same = sym (file-letters a.a.now p.0) ∙ c.if-l-m.false ∙ file-letters a.b.now p.1 in
    refused-zero (own-refused a.a.now a.b.now _ same E) E.zeroes E.codes-zero E.moves-zero z.codes_after z.transitions_after refl refl

pub returns-in-Ok : goal.returns-in-Ok
returns-in-Ok c =
    let a = c.args in let p = c.requires in let f = c.build_accepted in let e = f.auto.codes in let d = f.auto.transitions in
    let same = sym (file-letters a.a.now p.0) ∙ c.if-l-m.false ∙ file-letters a.b.now p.1 in
    let row = made_row a.a.now true p.0 (rw c.in-Ok.is at f.ensures) e d in
    lent_same (own-served a.a.now a.b.now _ same f.new.codes f.new.transitions row) (other-settles a.a.now a.b.now _) e d refl refl refl refl c.compare_other.ensures
