-- `file_read::preface` meets its contract: what the reader answers says where the preface ends.
use Rattle.std.proofs.Common.{sym, arith, length-take}
use Rattle.file_read.proofs.Answer.{served, preface-served, preface-refused}
use Rattle.file_read.proofs.preface.Goals as goal

pub slice_bounds-result-end : goal.slice_bounds-result-end
slice_bounds-result-end c = let s = served c.args.f.now c.in-Ok.l (sym c.in-Ok.ensures) in simp length-take (omega (arith, s.bounds))

pub returns-in-Ok : goal.returns-in-Ok
returns-in-Ok c = preface-served c.args.f.now c.in-Ok.l (sym c.in-Ok.ensures)

pub returns-in-Err : goal.returns-in-Err
returns-in-Err c = preface-refused c.args.f.now c.in-Err.field-0 (sym c.in-Err.ensures)
