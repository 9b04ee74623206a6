-- `hoa_text::lines::put_ap` meets its contract: one of five lines.
use mathlib.Core.Path.{◌≡◌, ◌∙◌, ap}
use Prim.Native.Nat.{◌+◌, ◌*◌}
use lib.ListN.{length}
use native.Mathlib.Omega.{arith}
use borrow.Author.Rules.{rules}
use Rattle.slice_text.proofs.Puts.{put_as}
use Rattle.hoa_spec.specs.Lines.{ap_line}
use Rattle.hoa_laws.proofs.Heads.{ap-0, ap-1, ap-2, ap-3, ap-4}
use Rattle.hoa_laws.proofs.Lengths.{ap-length}
use Rattle.hoa_text.proofs.lines.put_ap.Statement.{statement}
use Rattle.hoa_text.proofs.lines.put_ap.Tie as tie

-- how long the line is
long : (s : tie.Start) → length (ap_line s.args.b) ≡ 5 * s.args.b + 6
long s = ap-length s.args.b s.requires.0

returns-5 : tie.Need-returns
returns-5 c = let start : tie.Start = search in let e : start.args.b ≡ 4 = omega arith in let at-put5 : tie.After-put-2 = search in put_as (ap ap_line e ∙ ap-4) at-put5.put-2.ensures

pub put_ap_spec : {M : Type 1} → statement M
put_ap_spec = tie.close (tie.spec
    (λ c κs. omega (arith, long (search))) (λ c. search rules)
    (λ c. let then1 : tie.Then-b-eq0 = search in let at-put : tie.After-put = search in put_as (ap ap_line then1.if-b-eq0.true ∙ ap-0) at-put.put.ensures)
    (λ c κs. omega (arith, long (search))) (λ c. search rules)
    (λ c. let then2 : tie.Then-b-eq1 = search in let at-put2 : tie.After-put-then-b-eq1 = search in put_as (ap ap_line then2.if-b-eq1.true ∙ ap-1) at-put2.put-then-b-eq1.ensures)
    (λ c κs. omega (arith, long (search))) (λ c. search rules)
    (λ c. let then3 : tie.Then-b-eq2 = search in let at-put3 : tie.After-put-then-b-eq2 = search in put_as (ap ap_line then3.if-b-eq2.true ∙ ap-2) at-put3.put-then-b-eq2.ensures)
    (λ c κs. omega (arith, long (search))) (λ c. search rules)
    (λ c. let then4 : tie.Then-b-eq3 = search in let at-put4 : tie.After-put-then-b-eq3 = search in put_as (ap ap_line then4.if-b-eq3.true ∙ ap-3) at-put4.put-then-b-eq3.ensures)
    (λ c κs. omega (arith, long (search))) (λ c. search rules) returns-5)
