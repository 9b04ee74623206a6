-- `take_head` meets its contract: line after line, what stands there is that of any table with the text.
use Rattle.std.proofs.Common.{refl}
use Rattle.hoa_read.proofs.Surveys.{head-no-name, head-no-states, head-no-ap, head-no-body, head_read}
use Rattle.hoa_read.proofs.take_head.Goals as goal

pub returns-in_err-a : goal.returns-in_err-a
returns-in_err-a c = rw c.from_residual.ensures (head-no-name c.in_err-a.ensures refl)

pub returns-in_err-s : goal.returns-in_err-s
returns-in_err-s c = let A = c.in_ok-a.ensures in rw c.from_residual-in_err-s.ensures (head-no-states A.1 A.0 c.in_err-s.ensures refl)

pub returns-in_err-q : goal.returns-in_err-q
returns-in_err-q c = let A = c.in_ok-a.ensures in let S = c.in_ok-s.ensures in
    rw c.from_residual-in_err-q.ensures (head-no-ap A.1 A.0 S.1 S.0 c.take_starts-t.ensures.read c.in_err-q.ensures refl)

pub returns-in_err-d : goal.returns-in_err-d
returns-in_err-d c = let A = c.in_ok-a.ensures in let S = c.in_ok-s.ensures in let Q = c.in_ok-q.ensures in
    rw c.from_residual-in_err-d.ensures (head-no-body A.1 A.0 S.1 S.0 c.take_starts-t.ensures.read Q.1 Q.0 c.in_err-d.ensures refl)

pub returns : goal.returns
returns c = let A = c.in_ok-a.ensures in let S = c.in_ok-s.ensures in let Q = c.in_ok-q.ensures in let D = c.in_ok-d.ensures in
    (D.0, head_read A.1 A.0 S.1 S.0 c.take_starts-t.ensures.read Q.1 Q.0 D.1 D.0)
