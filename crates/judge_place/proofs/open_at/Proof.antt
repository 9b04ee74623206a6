-- `judge_place::open_at` meets its contract: the bits of the mask that it writes are those of the definition.
use mathlib.Core.Bool.{not}
use lib.Dec.{eqb}
use Rattle.judge_place.specs.Starts.{met_by_lem}
use Prim.Native.Nat.{ℕ}
use mathlib.Core.Path.{◌≡◌, sym, ap, ◌∙◌}
use mathlib.Core.List.{[]}
use native.Mathlib.Omega.{arith}
use native.Mathlib.Numerals.{add-one}
use lib.Bits.{bit_and, bit_xor}
use lib.ListN.{get_or, set}
use Rattle.sets.proofs.Lists.{mem-at}
use Rattle.theory.specs.Word.{next_place_lem, letter_at_lem}
use Rattle.theory_laws.proofs.Places.{next-place-last, next-place-other, next-place-low}
use Rattle.rule_entries.specs.Entries.{rule_of}
use Rattle.rule_entries.proofs.Entries.{accepting-small}
use Rattle.judge_place.specs.Rounds.{opened}
use Rattle.judge_place.proofs.Opening.{closed, closed-le, opened-is}
use borrow.Author.Rules.{rules}
use Rattle.judge_place.proofs.open_at.Statement.{statement}
use Rattle.judge_place.proofs.open_at.Lts.{else-k-cycle, then-k-cycle}
use Rattle.judge_place.proofs.open_at.Tie as tie

cast-accepting : tie.Need-overflow_cast-accepting
cast-accepting c = let start : tie.Start = search in let w = start.requires.0.passing.formed in omega (arith, accepting-small _ w)

-- the place that follows
next : (c : tie.Joined-k-cycle) → let start : tie.Start = search in let a = start.args in c.if-k-cycle.k ≡ next_place_lem [] a.cycle.now a.p
next c = let start : tie.Start = search in let a = start.args in elim c.if-k-cycle.branch [
  | then-k-cycle w ↦ w.k-is ∙ sym (next-place-last [] a.cycle.now a.p (omega (arith, w.if-k-cycle.true)))
  | else-k-cycle w ↦ w.k-is ∙ add-one a.p ∙ sym (next-place-other [] a.cycle.now a.p (λ e. omega (arith, w.if-k-cycle.false)))
]

cast-met-by : tie.Need-overflow_cast-cycle
cast-met-by c = let start : tie.Start = search in omega (arith, c.shared_slice_known-4-1.given start.args.p)

slice-read-met-by : tie.Need-bounds-masks-k
slice-read-met-by c = let start : tie.Start = search in let a = start.args in let z = start.requires in
    omega (arith, next (search), next-place-low [] a.cycle.now z.0.word.repeats a.p (omega (arith, z.3)), z.2)

met-by-requires : tie.Need-met_by-met-requires
met-by-requires c κs =
    let start : tie.Start = search in let a = start.args in let z = start.requires in let r = rule_of a.h a.counts.now a.clauses.now in
    let at-difference : tie.After-difference-closed = search in (
      z.0.passing.formed,
      z.0.beginnings,
      z.0.word.cycle_letters _ (mem-at a.cycle.now a.p z.3),
      rw at-difference.difference-closed.ensures (closed-le r a.cycle.now a.layer a.masks.now a.p z.1),
    )

returns : tie.Need-returns
unfolding letter_at_lem
returns c =
    let start : tie.Start = search in let a = start.args in let z = start.requires in let r = rule_of a.h a.counts.now a.clauses.now in let cy = a.cycle.now in
    let ms = a.masks.now in let at-difference : tie.After-difference-closed = search in let d = at-difference.difference-closed in let n = next (search) in let w = z.0.passing.formed in
    let joined1 : tie.Joined-k-cycle = search in let tried : c.met_by-met.result ≡ met_by_lem r (get_or cy a.p 0) (get_or ms joined1.if-k-cycle.k 0) d.result = c.met_by-met.ensures in
    let m : c.met_by-met.result ≡ met_by_lem r (letter_at_lem [] cy a.p) (get_or ms (next_place_lem [] cy a.p) 0) (closed r cy a.layer ms a.p)
    = tried ∙ ap (λ (x : ℕ). met_by_lem r (get_or cy a.p 0) (get_or ms x 0) d.result) n ∙ ap (λ (x : ℕ). met_by_lem r (get_or cy a.p 0) (get_or ms (next_place_lem [] cy a.p) 0) x) d.ensures in
    let at-slice-known2 : tie.After-slice_known-2-1 = search in
    let e : bit_xor (get_or ms a.p 0) (bit_and d.result (bit_xor c.met_by-met.result a.h.accepting)) ≡ opened r cy a.layer ms a.p
    = ap (λ (x : ℕ). bit_xor (get_or ms a.p 0) (bit_and x (bit_xor c.met_by-met.result a.h.accepting))) d.ensures
    ∙ opened-is r cy a.layer ms a.p (at-slice-known2.slice_known-2-1.given a.p).fits (accepting-small _ w) c.met_by-met.result m in
    (ap (set ms a.p) e, ap (λ (x : ℕ). not (eqb x (get_or ms a.p 0))) e)

pub open_at_spec : {M : Type 1} → statement M
open_at_spec = tie.close (tie.spec
    cast-accepting (λ c. search rules) (λ c. search rules) (λ c κs. search rules) (λ c. search rules) cast-met-by slice-read-met-by met-by-requires
    (λ c. search rules) (λ c. search rules) returns)
