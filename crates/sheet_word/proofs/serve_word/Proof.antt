-- `sheet_word::serve_word` meets its contract: the tidy spelling, its cycle, then the masks of the word.
use Prim.Native.Nat.{ℕ, ◌+◌, ◌-◌, ◌*◌, ◌≤◌}
use mathlib.Core.Path.{◌≡◌, sym, ◌∙◌, ap}
use mathlib.Core.List.{[]}
use native.Mathlib.Omega.{arith}
use lib.ListN.{take, drop, length-take, length-drop}
use borrow.Author.Rules.{rules}
use Rattle.theory.specs.Truth.{truth_masks}
use Rattle.theory.specs.Word.{WordOver}
use Rattle.rule_entries.specs.Entries.{rule_of}
use Rattle.sheet_spec.specs.Words.{lead_of, cycle_of}
use Rattle.sheet_spec.specs.Computed.{learn}
use Rattle.sheet_words.specs.Places.{word_from}
use Rattle.sheet_cycles.specs.Known.{known_of}
use Rattle.sheet_word.proofs.Serve.{word_at, part-over, part-long, part-some, front-letters, front-short, served-masks}
use Rattle.sheet_word.proofs.Word.{served-by}
use Rattle.sheet_word.proofs.serve_word.Statement.{statement}
use Rattle.sheet_word.proofs.serve_word.Tie as tie

-- the word is one over the rule's letters
over : (c : tie.Start) → let w = word_from c.args.sheet.now c.args.next.at in WordOver c.args.rule.head.s (lead_of w) (cycle_of w)
over c = word_at c.args.rule.head.s c.args.sheet.now c.args.next.at c.requires.1 c.requires.2

abbrev start_of : tie.After-tidy_at-tidy → tie.Start
start_of c = search

abbrev tidy_of : tie.After-learn_cycle-known → tie.After-tidy_at-tidy
tidy_of c = search

abbrev learnt-of : tie.After-struct_known-1 → tie.After-learn_cycle-known
learnt-of c = search

tidy-at-requires : tie.Need-tidy_at-tidy-requires
tidy-at-requires c κs = let start : tie.Start = search in (start.requires.1, (start.args.rule.head.s, start.requires.2))

learn-cycle-requires : tie.Need-learn_cycle-known-requires
learn-cycle-requires c κs =
    let at-tidy-at : tie.After-tidy_at-tidy = search in let T = at-tidy-at.tidy_at-tidy.ensures in let z = (start_of at-tidy-at).requires.0 in
    (record { passing = z.passing; beginnings = z.beginnings; word = part-over T (over (start_of at-tidy-at)) }, z.closed, z.cycles, z.room, T.short, T.within)

-- the masks of the cycle are a part of those filled
room : (c : tie.After-struct_known-1) → let l = (learnt-of c).learn_cycle-known in 32 * l.result.number + 32 ≤ 2048
room c = omega (arith, (learnt-of c).learn_cycle-known.ensures, (start_of (tidy_of (learnt-of c))).requires.0.room)

part-write-masks-end-2 : tie.Need-slice_bounds-write_masks-end-2
part-write-masks-end-2 c = let l = learnt-of (search) in omega (arith, room (search), l.learn_cycle-known.ensures.filled.room, (tidy_of l).tidy_at-tidy.ensures.short)

write-masks-requires : tie.Need-write_masks-requires
write-masks-requires c κs =
    let at-struct-known : tie.After-struct_known-1 = search in let t = tidy_of (learnt-of at-struct-known) in let T = t.tidy_at-tidy.ensures in let W = over (start_of t) in
    let z = (start_of t).requires in (
      z.0.passing.formed,
      z.0.beginnings,
      front-letters T W,
      simp (length-take, length-drop) (omega (arith, part-some T W, T.short, room at-struct-known, (learnt-of at-struct-known).learn_cycle-known.ensures.filled.room)),
      front-short T W,
      omega (arith, T.few, z.3),
    )

returns : tie.Need-returns
returns c =
    let at-learn-cycle : tie.After-learn_cycle-known = search in let t = tidy_of at-learn-cycle in let T = t.tidy_at-tidy.ensures in let W = over (start_of t) in let a = (start_of t).args in
    let z = (start_of t).requires in let r = rule_of a.rule.head a.counts.now a.clauses.now in let L = at-learn-cycle.learn_cycle-known.ensures in
    let k = at-learn-cycle.learn_cycle-known.result.number in let p = t.tidy_at-tidy.result.size in
    let filled = at-learn-cycle.learn_cycle-known.new.filled in let long : 32 * k + p - 32 * k ≡ p = omega arith in
    let masks : take (32 * k + p - 32 * k) (drop (32 * k) filled) ≡ truth_masks r [] (take p (drop t.tidy_at-tidy.result.begin a.sheet.now))
    = ap (λ (x : ℕ). take x (drop (32 * k) filled)) (long ∙ sym (part-long T W)) ∙ L.masks in
    let at-write-masks : tie.After-write_masks = search in
    served-by z.2 (served-masks T W z.0.passing masks z.3 at-write-masks.write_masks.ensures)
    (L.known ∙ ap (learn (known_of a.sheet.now a.from.now a.size.now a.next.cycles)) T.cycle) L.filled L.one

pub serve_word_spec : {M : Type 1} → statement M
serve_word_spec = tie.close (tie.spec
    tidy-at-requires learn-cycle-requires (λ c. omega (arith, room c)) (λ c. omega (arith, room c, (tidy_of (learnt-of c)).tidy_at-tidy.ensures.short))
    (λ c. omega arith) (λ c. (tidy_of (learnt-of c)).tidy_at-tidy.ensures.order) (λ c. omega (arith, (tidy_of (learnt-of c)).tidy_at-tidy.ensures.within))
    (λ c. omega arith) (λ c. omega arith) part-write-masks-end-2 write-masks-requires (λ c. search rules) (λ c. search rules) (λ c. search rules)
    (λ c. search rules) returns)
