-- `file_tidy::write_tidied` meets its contract: the tidied rule stands in the fronts of two arrays, and is laid out where the slice has room.
use Prim.Native.Nat.{ℕ, ◌+◌, ◌≤◌, ◌<◌}
use mathlib.Core.Path.{◌≡◌, sym, ◌∙◌, ap}
use mathlib.Core.List.{List, ◌++◌}
use native.Mathlib.Omega.{arith}
use borrow.Author.Rules.{rules}
use lib.ListN.{length}
use Rattle.rule_entries.specs.Entries.{rule_of}
use Rattle.rule_entries.proofs.Entries.{entries-few}
use Rattle.rule_tidy_spec.specs.Tidy.{tidy_rule_lem}
use Rattle.rule_tidy.specs.Filled.{filled}
use Rattle.file_spec.specs.File.{body_of}
use Rattle.file_spec.specs.Names.{preface_from}
use Rattle.file_write_spec.specs.Written.{after}
use Rattle.std.specs.Prelude.{Ok}
use Rattle.file_write_spec.proofs.Laws.{preface-most, clauses-few, head-in-bytes}
use Rattle.file_tidy_spec.proofs.Laws.{short, enough}
use Rattle.file_tidy.proofs.Filled.{Fronts, fronts}
use Rattle.file_tidy.proofs.write_tidied.Statement.{statement}
use Rattle.file_tidy.proofs.write_tidied.Tie as tie

tidy-rule-requires : tie.Need-tidy_rule-kept-requires
tidy-rule-requires c κs = let start : tie.Start = search in let w = start.requires.0 in (w, entries-few _ w, clauses-few _ w)

abbrev start-of-after-tidy-rule : tie.After-tidy_rule-kept → tie.Start
start-of-after-tidy-rule c = search

-- the tidied rule in two arrays that it was written to
known : (c : tie.After-tidy_rule-kept) (oldcounts oldclauses : List ℕ) {counts2 clauses2 : List ℕ} {kept : ℕ}
    → let a = (start-of-after-tidy-rule c).args in let r = tidy_rule_lem (rule_of a.h a.counts.now a.clauses.now) in
    kept ≡ length r.clauses → counts2 ≡ filled r.counts oldcounts → clauses2 ≡ filled r.clauses oldclauses
    → Fronts a.h a.counts.now a.clauses.now counts2 clauses2 kept
known c oldcounts oldclauses e x y = let start = start-of-after-tidy-rule c in let a = start.args in
    fronts a.h a.counts.now a.clauses.now oldcounts oldclauses start.requires.0 e x y

abbrev start-of-after-preface-length : tie.After-preface_length-at → tie.Start
start-of-after-preface-length c = search

-- the parts are short
small : (c : tie.After-preface_length-at) → let at-tidy-rule : tie.After-tidy_rule-kept = search in let a = (start-of-after-preface-length c).args in
    (c.preface_length-at.result ≤ 130) × (length a.counts.now ≤ 128) × (at-tidy-rule.tidy_rule-kept.result ≤ 1024)
small c = let start = start-of-after-preface-length c in let at-tidy-rule : tie.After-tidy_rule-kept = search in let t = at-tidy-rule.tidy_rule-kept.ensures in
    let k = known at-tidy-rule _ _ t.0 t.1.0 t.1.1 in (omega (arith, c.preface_length-at.ensures, preface-most start.args.names.now, start.requires.1), k.few-entries, k.few_clauses)

returns : tie.Need-returns-then-out-length
returns c =
    let start : tie.Start = search in let a = start.args in let file = preface_from a.names.now ++ body_of (tidy_rule_lem (rule_of a.h a.counts.now a.clauses.now)) in
    let at-tidy-rule : tie.After-tidy_rule-kept = search in let t = at-tidy-rule.tidy_rule-kept.ensures in let k = known at-tidy-rule _ _ t.0 t.1.0 t.1.1 in
    let lacks : length a.out.now < length file = omega (arith, k.long a.names.now, c.before.preface_length-at.ensures, c.if-out-length.true) in short file a.out.now lacks

fill-requires : tie.Need-fill-requires
fill-requires c κs =
    let start : tie.Start = search in let a = start.args in let at-tidy-rule : tie.After-tidy_rule-kept = search in let t = at-tidy-rule.tidy_rule-kept.ensures in
    let k = known at-tidy-rule _ _ t.0 t.1.0 t.1.1 in let at-preface-length : tie.After-preface_length-at = search in let else1 : tie.Else-out-length = search in (
      head-in-bytes a.h a.counts.now a.clauses.now start.requires.0 _ (omega (arith, k.clauses-long, k.few_clauses)),
      at-preface-length.preface_length-at.ensures,
      omega (arith, k.clauses-long, k.counts-long, else1.if-out-length.false),
    )

returns-2 : tie.Need-returns
returns-2 c =
    let start : tie.Start = search in let a = start.args in let at-tidy-rule : tie.After-tidy_rule-kept = search in let t = at-tidy-rule.tidy_rule-kept.ensures in
    let k = known at-tidy-rule _ _ t.0 t.1.0 t.1.1 in
    let file = preface_from a.names.now ++ body_of (tidy_rule_lem (rule_of a.h a.counts.now a.clauses.now)) in let at-preface-length : tie.After-preface_length-at = search in
    let p = at-preface-length.preface_length-at in
    let long : length file ≡ p.result + at-tidy-rule.tidy_rule-kept.result + length a.counts.now + 8 = omega (arith, k.long a.names.now, p.ensures) in
    let else1 : tie.Else-out-length = search in let has : length file ≤ length a.out.now = omega (arith, long, else1.if-out-length.false) in let e = enough file a.out.now has in
    let at_fill : tie.After-fill = search in (ap Ok (sym long) ∙ e.0, at_fill.fill.ensures ∙ ap (λ (x : List ℕ). after 0 x a.out.now) (k.file a.names.now) ∙ e.1)

pub write_tidied_spec : {M : Type 1} → statement M
write_tidied_spec = tie.close (tie.spec
    (λ c. search rules) (λ c. search rules) tidy-rule-requires (λ c κs. let start : tie.Start = search in start.requires.1) (λ c. omega (arith, small c)) (λ c. omega (arith, small c))
    (λ c. omega (arith, small c)) returns
    (λ c. let at-tidy-rule : tie.After-tidy_rule-kept = search in let t = at-tidy-rule.tidy_rule-kept.ensures in (known at-tidy-rule _ _ t.0 t.1.0 t.1.1).counts-room)
    (λ c. let at-tidy-rule : tie.After-tidy_rule-kept = search in let t = at-tidy-rule.tidy_rule-kept.ensures in sym (known at-tidy-rule _ _ t.0 t.1.0 t.1.1).counts-long)
    (λ c. let at-tidy-rule : tie.After-tidy_rule-kept = search in let t = at-tidy-rule.tidy_rule-kept.ensures in (known at-tidy-rule _ _ t.0 t.1.0 t.1.1).clauses-room)
    (λ c. let at-tidy-rule : tie.After-tidy_rule-kept = search in let t = at-tidy-rule.tidy_rule-kept.ensures in sym (known at-tidy-rule _ _ t.0 t.1.0 t.1.1).clauses-long)
    fill-requires (λ c. search rules) returns-2)
