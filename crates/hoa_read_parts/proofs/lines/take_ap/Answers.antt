-- `take_ap` meets its contract: the five lines are tried.
use Rattle.std.proofs.Common.{refl, arith}
use Rattle.hoa_laws.proofs.Taking.{one_none}
use Rattle.hoa_laws.proofs.Heads.{ap-0, ap-1, ap-2, ap-3, ap-4, ap-found, ap-last}
use Rattle.hoa_read_parts.proofs.lines.take_ap.Goals as goal

pub returns-in-Some : goal.returns-in-Some
returns-in-Some c = let A = c.in-Some.ensures in (A.0, ap-found 0 ap-0 (omega arith) A.1 A.0)

pub returns-in-Some-take : goal.returns-in-Some-take
returns-in-Some-take c = let A = c.in-Some-take.ensures in (A.0, ap-found 1 ap-1 (omega arith) A.1 A.0)

pub returns-in-Some-take-2 : goal.returns-in-Some-take-2
returns-in-Some-take-2 c = let A = c.in-Some-take-2.ensures in (A.0, ap-found 2 ap-2 (omega arith) A.1 A.0)

pub returns-in-Some-take-3 : goal.returns-in-Some-take-3
returns-in-Some-take-3 c = let A = c.in-Some-take-3.ensures in (A.0, ap-found 3 ap-3 (omega arith) A.1 A.0)

pub returns-in_err-e : goal.returns-in_err-e
returns-in_err-e c =
    rw c.from_residual.ensures (one_none refl ((ap-last ap-0 ap-1 ap-2 ap-3 ap-4 c.in_default.ensures refl c.in_default-take.ensures refl
    c.in_default-take-2.ensures refl c.in_default-take-3.ensures refl c.in_err-e.ensures).absent refl))

pub returns : goal.returns
returns c = (
  c.in_ok-e.ensures.0,
  ap-last ap-0 ap-1 ap-2 ap-3 ap-4 c.in_default.ensures refl c.in_default-take.ensures refl c.in_default-take-2.ensures refl c.in_default-take-3.ensures refl
      c.in_ok-e.ensures.1,
)
