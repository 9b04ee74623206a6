-- The tidied rule and the rule are the same, and so are the tool's file and the file, names included.
use Prim.Native.Nat.{ℕ, ◌^◌, ◌<◌}
use mathlib.Core.Path.{◌≡◌, refl, sym}
use mathlib.Core.Bool.{true}
use mathlib.Core.List.{List, Memᴰ}
use borrow.Author.Tests.{eq-eqb}
use Rattle.sets.specs.Masks.{bit}
use Rattle.slice_search.proofs.Same.{lists-refl}
use Rattle.refusals.specs.Rows.{first_row}
use Rattle.sets.proofs.Tests.{every-all}
use Rattle.theory.specs.Rule.{Rule, entry, satisfies}
use Rattle.file_spec.specs.File.{named_in, names_of, rule_in}
use Rattle.rule_same.proofs.Same.{equal-agree}
use Rattle.rule_same.specs.Same.{same_entry_lem, same_entries_lem, same_rules, same_named}
use Rattle.rule_tidy_spec.specs.Tidy.{tidy_rule_lem}
use Rattle.rule_tidy_spec.proofs.Rules.{entry-satisfies}
use Rattle.file_tidy_spec.specs.Tidied.{tidy_rows, tidy_file}
use Rattle.file_tidy_spec.proofs.Laws.{tidy-served}
use Rattle.file_tidy_spec.proofs.Round.{tidied-reads}

-- 01: "Two rules are the same if n, s, initial state and accepting mask agree and every entry is satisfied by the same sets."
pub tidy-same : (r : Rule) → ((c : ℕ) → Memᴰ c r.clauses → c < 2 ^ r.n) → same_rules r (tidy_rule_lem r) ≡ true
unfolding same_rules same_entries_lem same_entry_lem tidy_rule_lem
tidy-same r small =
    rw (eq-eqb r.n r.n refl, eq-eqb r.s r.s refl, eq-eqb r.initial r.initial refl, eq-eqb r.accepting r.accepting refl)
    (every-all r.n _ (λ q l. every-all r.s _ (λ a m. every-all (2 ^ r.n) _ (λ X k.
    equal-agree (satisfies r.n (bit X) (entry r q a)) (satisfies r.n (bit X) (entry (tidy_rule_lem r) q a)) (sym (entry-satisfies r small q a (bit X)))))))

-- 02: "besides, both lack names or all names agree"
pub tidied-same : (f : List ℕ) → first_row (tidy_rows f) ≡ 0 → same_named (named_in f) (named_in (tidy_file f)) ≡ true
unfolding same_named
tidied-same f e =
    let t = tidied-reads f e in
    rw (t.rule, t.letters, tidy-same (rule_in f) (tidy-served f e).formed.clause_states, lists-refl (names_of f))
