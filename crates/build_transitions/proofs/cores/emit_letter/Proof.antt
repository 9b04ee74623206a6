-- `build_transitions::cores::emit_letter` meets its contract.
use Prim.Native.Nat.{◌+◌, ◌*◌, ◌≤◌}
use native.Mathlib.Omega.{arith}
use lib.ListN.{get_or}
use lib.Bits.{bit_xor}
use borrow.Author.Rules.{rules}
use Rattle.build_spec.specs.Chains.{key_at}
use Rattle.build_spec.proofs.Link.{key-paired}
use Rattle.build_spec.proofs.Starting.{few}
use Rattle.build_spec.proofs.Letters.{stepping-fits, leads-in, leads-out, nothing-new}
use Rattle.build_spec.proofs.Appended.{appended-as}
use Rattle.build_spec.proofs.Emission.{emitted-none}
use Rattle.build_transitions.proofs.cores.emit_letter.Statement.{statement}
use Rattle.build_transitions.proofs.cores.emit_letter.Tie as tie

set-before-requires : tie.Need-set_before-set-requires
set-before-requires c κs = let start : tie.Start = search in let p = start.requires in omega (arith, p.5, p.0.1.shaped.letters_are, p.0.1.table.few_letters)

returns : tie.Need-returns-then-last_of-eq0
returns c =
    let start : tie.Start = search in let a = start.args in let p = start.requires in let at-set-before : tie.After-set_before-set = search in
    let none : get_or a.last.now (bit_xor (get_or a.opens.now (a.at.letter * 256 + get_or a.low.now 15 0) 0) a.shape.accepting) 0 ≤ 0
    = rw (← at-set-before.set_before-set.ensures) (let z : get_or a.last.now at-set-before.set_before-set.result 0 ≤ 0 = omega (arith, c.before.last_of.ensures, c.if-last_of-eq0.true) in z) in
    λ r T R. emitted-none p.6 (λ y f. nothing-new T a.at.letter p.5 p.3 a.low.now p.4 0 p.1 none (key_at a.keys.now f.2.0) (f.0, omega arith, f.1, f.2.2))

step-over-requires : tie.Need-step_over-cores-requires
step-over-requires c κs = let start : tie.Start = search in let p = start.requires in ((p.0.0, p.0.1), p.3, p.4, p.5)

emit-sources-requires : tie.Need-emit_sources-requires
emit-sources-requires c κs =
    let start : tie.Start = search in let p = start.requires in let e = p.0 in let at-step-over : tie.After-step_over-cores = search in
    let f = stepping-fits e.1.shaped p.3 (at-step-over.step_over-cores.ensures e.0 e.1) in (
      p.1,
      p.2,
      (λ q l. key-paired e.1.shaped (e.2 q l)),
      few e.1.shaped,
      f.0,
      f.1,
      omega (arith, p.5, e.1.shaped.letters_are, e.1.table.few_letters),
      p.6,
    )

returns-2 : tie.Need-returns
returns-2 c = let at-step-over : tie.After-step_over-cores = search in let at-emit-sources : tie.After-emit_sources = search in
    λ r T R. let S = at-step-over.step_over-cores.ensures r T in appended-as at-emit-sources.emit_sources.ensures
    (λ t y m. (m.0, m.1, (m.2.0, m.2.1, leads-out S (key-paired T.shaped (R m.0 m.1)) m.2.2, m.2.3)))
    (λ y m. (m.0, m.1, (m.2.0, m.2.1, leads-in S (key-paired T.shaped (R m.0 m.1)) m.2.2, m.2.3)))

pub emit_letter_spec : {M : Type 1} → statement M
emit_letter_spec = tie.close (tie.spec
    (λ c. search rules) set-before-requires (λ c κs. search rules) returns step-over-requires emit-sources-requires (λ c. search rules) returns-2)
