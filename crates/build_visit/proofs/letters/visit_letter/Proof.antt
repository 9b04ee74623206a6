-- `build_visit::letters::visit_letter` meets its contract.
use Prim.Native.Nat.{◌+◌, ◌*◌, ◌≤◌}
use native.Mathlib.Omega.{arith}
use lib.ListN.{get_or}
use lib.Bits.{bit_xor}
use borrow.Author.Rules.{rules}
use Rattle.build_spec.proofs.Appended.{appended-none, appended-as}
use Rattle.build_spec.proofs.Link.{key-paired}
use Rattle.build_spec.proofs.Starting.{few}
use Rattle.build_spec.proofs.Letters.{stepping-fits, leads-in, leads-out, nothing-new, led}
use Rattle.build_visit.proofs.letters.visit_letter.Statement.{statement}
use Rattle.build_visit.proofs.letters.visit_letter.Tie as tie

set-before-requires : tie.Need-set_before-set-requires
set-before-requires c κs = let start : tie.Start = search in let p = start.requires in omega (arith, p.5, p.0.1.shaped.letters_are, p.0.1.table.few_letters)

returns : tie.Need-returns-then-wide-from
returns c =
    let start : tie.Start = search in let a = start.args in let p = start.requires in let at-last-of : tie.After-last_of = search in let at-set-before : tie.After-set_before-set = search in
    let passed : get_or a.last.now (bit_xor (get_or a.opens.now (a.at.letter * 256 + get_or a.low.now 15 0) 0) a.shape.accepting) 0 ≤ a.from
    = rw (c.before.wide.ensures, at-last-of.last_of.ensures, at-set-before.set_before-set.ensures) at c.if-wide-from.true in
    λ r T R. appended-none p.1 (λ y h. absurd (nothing-new T a.at.letter p.5 p.3 a.low.now p.4 a.from p.1 passed y h))

step-over-requires : tie.Need-step_over-cores-requires
step-over-requires c κs = let start : tie.Start = search in let p = start.requires in ((p.0.0, p.0.1), p.3, p.4, p.5)

move-keys-requires : tie.Need-move_keys-requires
move-keys-requires c κs =
    let start : tie.Start = search in let p = start.requires in let e = p.0 in let at-step-over : tie.After-step_over-cores = search in
    let f = stepping-fits e.1.shaped p.3 (at-step-over.step_over-cores.ensures e.0 e.1) in
    (p.1, p.2, (λ q l. key-paired e.1.shaped (e.2 q l)), few e.1.shaped, f.0, f.1)

returns-2 : tie.Need-returns
returns-2 c =
    let start : tie.Start = search in let p = start.requires in let at-step-over : tie.After-step_over-cores = search in let at-move-keys : tie.After-move_keys = search in
    λ r T R. let S = at-step-over.step_over-cores.ensures r T in
    appended-as at-move-keys.move_keys.ensures (λ t y h. (h.0, h.1, h.2, leads-out S (key-paired T.shaped (R h.0 h.2)) h.3))
    (λ y h. led start.args.shape p.5 p.3 (R h.0 h.2) (leads-in S (key-paired T.shaped (R h.0 h.2)) h.3))

pub visit_letter_spec : {M : Type 1} → statement M
visit_letter_spec = tie.close (tie.spec
    (λ c. search rules) set-before-requires (λ c κs. search rules) (λ c κs. search rules) returns step-over-requires move-keys-requires (λ c. search rules)
    returns-2)
