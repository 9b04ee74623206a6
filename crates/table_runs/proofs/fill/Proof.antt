-- `table_runs::fill` meets its contract: the marks of the cycle, then those of the lead-in.
use mathlib.Core.Path.{◌≡◌, sym, ap, ◌∙◌}
use mathlib.Core.List.{List}
use Prim.Native.Nat.{ℕ, ◌+◌, ◌-◌, ◌*◌, ◌≤◌}
use native.Mathlib.Omega.{arith}
use lib.ListN.{length, take, drop, get_or-replicate}
use borrow.Author.Rules.{rules}
use Rattle.table_lent.specs.Lent.{in_both}
use Rattle.table_runs.proofs.Parts.{parts-sum, cycle-room, end-length, whole_length, whole-front, whole-end}
use Rattle.table_runs.proofs.LeadIns.{tracked}
use borrow.Author.Rules.{rules}
use Rattle.table_runs.proofs.fill.Statement.{statement}
use Rattle.table_runs.proofs.fill.Tie as tie

abbrev start_of : tie.After-count-n → tie.Start
start_of c = search

-- the marks of the lead-in, and those of the cycle
sizes : (c : tie.After-count-n) → let a = (start_of c).args in length a.lead.now * c.count-n.result + length a.cycle.now * c.count-n.result ≡ length a.marks.now
sizes c = let a = (start_of c).args in
    parts-sum (length a.lead.now) (length a.cycle.now) (length (in_both a.codes.now a.codebytes.now).numbers) c.count-n.result
    (length a.marks.now) c.count-n.ensures (start_of c).requires.marked

fill-cycle-requires : tie.Need-fill_cycle-requires
fill-cycle-requires c κs =
    let at_count : tie.After-count-n = search in let a = (start_of at_count).args in let p = (start_of at_count).requires in let at-fill-with : tie.After-fill_with = search in
    let w = at-fill-with.fill_with in let at = length a.lead.now * at_count.count-n.result in
    let e : length (take (length w.new.xs - at) (drop at w.new.xs)) ≡ length a.cycle.now * at_count.count-n.result =
    end-length w.new.xs at (omega (arith, sizes at_count, w.auto.xs)) ∙ omega (arith, sizes at_count, w.auto.xs) in
    record { repeats = p.repeats; marked = e ∙ ap (λ (k : ℕ). length a.cycle.now * k) at_count.count-n.ensures; sources = p.sources; targets = p.targets }

abbrev count_of : tie.After-fill_cycle → tie.After-count-n
count_of c = search

-- the marks of the cycle
abbrev cycle-marks : tie.After-fill_cycle → List ℕ
cycle-marks c = let marks = c.fill_cycle.new.marks in marks

-- they are as many as are left behind those of the lead-in
long : (c : tie.After-fill_cycle) → let at-fill-with : tie.After-fill_with = search in let w = at-fill-with.fill_with.new.xs in
    let at = length (start_of (count_of c)).args.lead.now * (count_of c).count-n.result in (at ≤ length w) × (length (cycle-marks c) ≡ length w - at)
long c =
    let at-fill-with : tie.After-fill_with = search in let w = at-fill-with.fill_with in let at = length (start_of (count_of c)).args.lead.now * (count_of c).count-n.result in
    let fits : at ≤ length w.new.xs = omega (arith, sizes (count_of c), w.auto.xs) in (fits, omega (arith, c.fill_cycle.auto, end-length w.new.xs at fits))

-- there is room for a place behind them
room : (c : tie.After-count-n) → let a = (start_of c).args in length a.lead.now * c.count-n.result + c.count-n.result ≤ length a.marks.now
room c = let a = (start_of c).args in
    cycle-room (length a.lead.now) (length a.cycle.now) (length (in_both a.codes.now a.codebytes.now).numbers) c.count-n.result
    (length a.marks.now) c.count-n.ensures (start_of c).requires.marked (start_of c).requires.repeats

enter-lead-requires : tie.Need-enter_lead-requires
enter-lead-requires c κs =
    let at-fill-cycle : tie.After-fill_cycle = search in let at_count = count_of at-fill-cycle in let p = (start_of at_count).requires in let at-fill-with : tie.After-fill_with = search in
    let w = at-fill-with.fill_with in let f = at-fill-cycle.fill_cycle in let l = long at-fill-cycle in (
      rw (whole_length w.new.xs (cycle-marks at-fill-cycle) _ l.0 l.1, w.auto.xs) (room at_count),
      λ t m. rw at_count.count-n.ensures (p.sources t m, p.targets t m),
      λ x k. whole-front w.new.xs (cycle-marks at-fill-cycle) _ l.0 l.1 x k
          ∙ rw w.ensures (get_or-replicate (length (start_of at_count).args.marks.now) x 0 0 (omega (arith, sizes at_count))),
    )

returns : tie.Need-returns
returns c =
    let at-fill-cycle : tie.After-fill_cycle = search in let at_count = count_of at-fill-cycle in let p = (start_of at_count).requires in let at-fill-with : tie.After-fill_with = search in
    let w = at-fill-with.fill_with in let f = at-fill-cycle.fill_cycle in let e = at_count.count-n.ensures in let l = long at-fill-cycle in
    let at-enter-lead : tie.After-enter_lead = search in
    tracked _ _ _ _ _ _ p.repeats p.targets (rw e at at-enter-lead.enter_lead.ensures)
    (λ m low. rw (sym e, whole-end w.new.xs (cycle-marks at-fill-cycle) _ l.0 l.1 m (omega (arith, room at_count, e, w.auto.xs, l.1, low))) (f.ensures m low))

pub fill_spec : {M : Type 1} → statement M
fill_spec = tie.close (tie.spec
    (λ c κs. search rules) (λ c. omega (arith, sizes c, (start_of c).well_formed)) (λ c κs. search rules)
    (λ c. let at-fill-with : tie.After-fill_with = search in omega (arith, sizes (search), at-fill-with.fill_with.auto.xs))
    (λ c. let at-fill-with : tie.After-fill_with = search in let h = sizes (search) in let k = at-fill-with.fill_with.auto.xs in search rules) (λ c. search rules)
    fill-cycle-requires enter-lead-requires (λ c. search rules) returns)
