-- `sheet_cycles::learning::learn_cycle` meets its contract: the cycle is found, or it is filled and added.
use Prim.Native.Nat.{ℕ, ◌+◌, ◌-◌, ◌*◌, ◌≤◌}
use mathlib.Core.Path.{◌≡◌, ◌∙◌, ap}
use mathlib.Core.List.{[]}
use native.Mathlib.Omega.{arith}
use native.Mathlib.Nat.{zero-add}
use lib.ListN.{length, take, drop, length-take, length-drop}
use borrow.Author.Rules.{rules}
use Rattle.theory.specs.Truth.{truth_masks}
use Rattle.theory_laws.proofs.Truth.{truth-length}
use Rattle.rule_entries.specs.Entries.{rule_of}
use Rattle.judge_place.proofs.Back.{mid-length}
use Rattle.sheet_cycles.specs.Known.{Found}
use Rattle.sheet_cycles.proofs.Filled.{learnt-known, learnt-new}
use Rattle.sheet_cycles.proofs.learning.learn_cycle.Statement.{statement}
use Rattle.sheet_cycles.proofs.learning.learn_cycle.Tie as tie

abbrev start_of : tie.After-find_cycle-number → tie.Start
start_of c = search

abbrev found_of : tie.After-slice_known-4-1 → tie.After-find_cycle-number
found_of c = search

-- the part of the sheet is the cycle
found : (c : tie.After-find_cycle-number) → let a = (start_of c).args in
    Found a.sheet.now a.from.now a.size.now a.sought.cycles (take a.sought.size (drop a.sought.begin a.sheet.now)) c.find_cycle-number.result
found c = let a = (start_of c).args in let q : a.sought.begin + a.sought.size - a.sought.begin ≡ a.sought.size = omega arith in rw q at c.find_cycle-number.ensures

returns : tie.Need-returns-then-number-n
returns c = let a = (start_of c.before).args in let z = (start_of c.before).requires in
    let long : length (take a.sought.size (drop a.sought.begin a.sheet.now)) ≡ a.sought.size = simp (length-take, length-drop) (omega (arith, z.5)) in
    learnt-known a.sought.begin a.sought.size z.2 c.before.find_cycle-number.result c.if-number-n.true long (found c.before)

fill-cycle-requires : tie.Need-fill_cycle-requires
fill-cycle-requires c κs =
    let start = start_of (search) in let a = start.args in let z = start.requires in let q : a.sought.begin + a.sought.size - a.sought.begin ≡ a.sought.size = omega arith in
    (rw q z.0, z.1, simp (length-take, length-drop) (omega (arith, z.2.room, z.3, z.4, z.5)))

returns-2 : tie.Need-returns
returns-2 c =
    let a = (start_of (found_of c)).args in let z = (start_of (found_of c)).requires in let r = rule_of a.rule.head a.counts.now a.clauses.now in
    let cycle = take a.sought.size (drop a.sought.begin a.sheet.now) in let at-fill-cycle : tie.After-fill_cycle = search in let f = at-fill-cycle.fill_cycle in
    let m = f.new.masks in let q : a.sought.begin + a.sought.size - a.sought.begin ≡ a.sought.size = omega arith in
    let long : length cycle ≡ a.sought.size = simp (length-take, length-drop) (omega (arith, z.5)) in
    let right : m ≡ truth_masks r [] cycle = f.ensures ∙ ap (λ (n : ℕ). truth_masks r [] (take n (drop a.sought.begin a.sheet.now))) q in
    let size : length m ≡ a.sought.size = ap length right ∙ truth-length r [] cycle ∙ zero-add (length cycle) ∙ long in
    let room : 32 * a.sought.cycles + a.sought.size ≤ length a.filled.now = omega (arith, z.2.room, z.3, z.4) in let g = found (found_of c) in let else1 : tie.Else-number-n = search in
    learnt-new a.sought.begin a.sought.size z.2 z.3 z.4 z.5 m right size
    (drop (32 * a.sought.cycles + a.sought.size - 32 * a.sought.cycles) (drop (32 * a.sought.cycles) a.filled.now))
    (mid-length a.filled.now (32 * a.sought.cycles) a.sought.size room m size) long (g.none (omega (arith, g.most, else1.if-number-n.false)))

pub learn_cycle_spec : {M : Type 1} → statement M
learn_cycle_spec = tie.close (tie.spec
    (λ c. let start : tie.Start = search in omega (arith, start.requires.5)) (λ c. omega arith) (λ c. omega arith)
    (λ c. let start : tie.Start = search in omega (arith, start.requires.5))
    (λ c κs. let start : tie.Start = search in start.requires.2.parts) (λ c. search rules)
    (λ c. search rules) returns (λ c. omega (arith, (start_of c.before).requires.3)) (λ c. let z = (start_of c.before).requires in omega (arith, z.3, z.4))
    (λ c. omega arith) (λ c. omega arith) (λ c. omega (arith, (start_of (search)).requires.5)) (λ c. omega arith) (λ c. omega arith)
    (λ c. let z = (start_of (search)).requires in omega (arith, z.2.room, z.3, z.4)) fill-cycle-requires
    (λ c. omega (arith, (start_of (found_of c)).requires.3)) (λ c. let z = (start_of (found_of c)).requires in omega (arith, z.3, z.2.parts.froms))
    (λ c. omega (arith, (start_of (found_of c)).requires.3)) (λ c. let z = (start_of (found_of c)).requires in omega (arith, z.3, z.2.parts.sizes))
    (λ c. omega (arith, (start_of (found_of c)).requires.3)) (λ c. search rules) (λ c. search rules) (λ c. search rules) returns-2)
