-- `is_faulty` meets its contract.
use Prim.Native.Nat.{ℕ, ◌≤◌}
use mathlib.Core.Path.{◌≡◌, sym, ◌∙◌, ap}
use mathlib.Core.Bool.{true, false}
use native.Mathlib.Omega.{arith}
use lib.ListN.{length}
use borrow.Author.Rules.{rules}
use Rattle.sets.specs.Lists.{any_of}
use Rattle.sets.proofs.Bools.{clash}
use Rattle.slice_search.specs.Places.{ascends}
use Rattle.table_lent.specs.Lent.{in_both, is_high, is_astray_lem}
use Rattle.table_rows.proofs.Faults.{faulty, by-transitions}
use Rattle.table_rows.proofs.rows.is_faulty.Statement.{statement}
use Rattle.table_rows.proofs.rows.is_faulty.Tie as tie

returns-5 : tie.Need-returns
returns-5 c = let start : tie.Start = search in let a = start.args in let codes = (in_both a.codes.now a.codebytes.now).numbers in
    let transitions = (in_both a.moves.now a.movebytes.now).numbers in let few : length codes ≤ 65536 = omega arith in let at-is-ascending : tie.After-is_ascending = search in
    let else2 : tie.Else-not-is_ascending = search in let codes_ascend : ascends codes ≡ true = sym at-is-ascending.is_ascending.ensures ∙ else2.if-not-is_ascending.false in
    let at-is-ascending2 : tie.After-is_ascending-2 = search in let else3 : tie.Else-not-is_ascending-2 = search in
    let transitions_ascend : ascends transitions ≡ true = sym at-is-ascending2.is_ascending-2.ensures ∙ else3.if-not-is_ascending-2.false in let at-has-high : tie.After-has_high = search in
    let none-high : any_of codes is_high ≡ false = sym at-has-high.has_high.ensures ∙ c.before.if-has_high.false in let at_count : tie.After-count-n = search in
    c.has_astray.ensures ∙ ap (λ (n : ℕ). any_of transitions (is_astray_lem n a.s)) at_count.count-n.ensures
    ∙ sym (by-transitions a.s codes transitions few codes_ascend transitions_ascend none-high)

pub is_faulty_spec : {M : Type 1} → statement M
is_faulty_spec = tie.close (tie.spec
    (λ c κs. search rules) (λ c. faulty _ _ _ (λ p. let few = p.few in omega (arith, c.if-n-gt65536.true))) (λ c κs. search rules)
    (λ c. faulty _ _ _ (λ p. clash p.codes_ascend (sym c.before.is_ascending.ensures ∙ c.if-not-is_ascending.true))) (λ c κs. search rules)
    (λ c. faulty _ _ _ (λ p. clash p.transitions_ascend (sym c.before.is_ascending-2.ensures ∙ c.if-not-is_ascending-2.true))) (λ c κs. search rules)
    (λ c. faulty _ _ _ (λ p. clash (sym c.before.has_high.ensures ∙ c.if-has_high.true) p.none-high)) (λ c κs. search rules) returns-5)
