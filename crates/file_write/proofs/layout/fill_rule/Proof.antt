-- `file_write::layout::fill_rule` meets its contract: three parts put one after the other.
use Prim.Native.Nat.{◌/◌, ◌%◌}
use mathlib.Core.Path.{◌≡◌, ◌∙◌}
use mathlib.Core.List.{[], ◌∷◌}
use native.Mathlib.Omega.{arith}
use borrow.Author.Rules.{rules}
use lib.ListN.{length}
use Rattle.slice_text.proofs.Puts.{put-paste}
use Rattle.rule_entries.specs.Entries.{rule_of}
use Rattle.file_spec.specs.File.{trailer_of, body_of}
use Rattle.file_write_spec.proofs.Laws.{paste-three}
use Rattle.file_write.proofs.layout.fill_rule.Statement.{statement}
use Rattle.file_write.proofs.layout.fill_rule.Tie as tie

abbrev start-of-after-low6 : tie.After-low-6 → tie.Start
start-of-after-low6 c = search

-- the bytes of the trailer are those of the rule
tail-is : (c : tie.After-low-6) → let at_low : tie.After-low = search in let at-low2 : tie.After-low-2 = search in let at-low3 : tie.After-low-3 = search in let at-low4 : tie.After-low-4 = search in
    at_low.low.result ∷ at-low2.low-2.result ∷ at-low3.low-3.result
    ∷ at-low4.low-4.result ∷ c.before.low-5.result ∷ c.low-6.result ∷ 0x41 ∷ 0x57 ∷ []
    ≡ trailer_of (rule_of (start-of-after-low6 c).args.h (start-of-after-low6 c).args.counts.now (start-of-after-low6 c).args.clauses.now)
unfolding trailer_of
tail-is c =
    let clauses = (start-of-after-low6 c).args.clauses.now in let low_byte : c.before.low-5.result ≡ length clauses % 256 = c.before.low-5.ensures in
    let high_byte : c.low-6.result ≡ length clauses / 256 = c.low-6.ensures in cc

returns : tie.Need-returns
unfolding body_of trailer_of
returns c =
    let start : tie.Start = search in let a = start.args in let at-put2 : tie.After-put-2 = search in let at-put : tie.After-put = search in let at-put3 : tie.After-put-3 = search in
    put-paste at-put3.put-3.ensures ∙ rw (put-paste at-put2.put-2.ensures, put-paste at-put.put.ensures, tail-is (search))
    (paste-three a.out.now a.at a.clauses.now a.counts.now (trailer_of (rule_of a.h a.counts.now a.clauses.now)) start.requires.1)

pub fill_rule_spec : {M : Type 1} → statement M
fill_rule_spec = tie.close (tie.spec
    (λ c κs. omega arith) (λ c κs. omega arith) (λ c κs. omega arith) (λ c κs. omega arith) (λ c κs. omega arith) (λ c κs. omega arith) (λ c. search rules)
    (λ c. search rules) (λ c. search rules) (λ c. search rules) (λ c κs. search rules) (λ c κs. search rules) (λ c. search rules) (λ c κs. omega arith)
    (λ c. search rules) returns)
