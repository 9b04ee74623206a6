-- Rows 3 to 11 refuse nothing exactly of a rule that passes every check of 01, and row 20 nothing exactly of a rule without a nested entry.
use Prim.Native.Nat.{ℕ, ◌*◌, ◌^◌}
use mathlib.Core.Path.{◌≡◌, refl, sym, ◌∙◌}
use mathlib.Core.Bool.{true, false, not}
use mathlib.Core.List.{List, []}
use borrow.Author.Tests.{ltb-false, leb-false, le-ltb, lt-leb, eqb-true, not-false}
use lib.Dec.{leb, ltb, eqb}
use lib.ListN.{length}
use Rattle.sets.specs.Lists.{any_of, sum}
use Rattle.refusals.specs.Rows.{first_row}
use Rattle.sets.proofs.Lists.{any_none, none_any}
use Rattle.refusals.proofs.Rows.{numbered, first-left, first-right, first-parts, first-pass}
use Rattle.theory.specs.Rule.{Rule}
use Rattle.theory.specs.Components.{mixed}
use Rattle.theory.specs.Passing.{WellFormed, Passing}
use Rattle.theory_laws.proofs.Components.{unmixed-iff}
use Rattle.rule_entries.specs.declared.Head.{Head}
use Rattle.rule_entries.specs.Entries.{rule_of}
use Rattle.file_spec.specs.RuleRows.{number_rows, list_rows, some_nested, clause_rows, component_rows, formed_rows, names_beyond}
use Rattle.file_spec.proofs.Numbers.{ranges, pass-6}
use Rattle.file_spec.proofs.ListRows.{pass-10}

module _ (h : Head) (counts clauses : List ℕ) where
  -- what rows 3 to 10 pass is well formed; row 7 says that the counts are n × s
  pub formed : first_row (number_rows h) ≡ 0 → length counts ≡ h.n * h.s → first_row (list_rows h.n counts clauses) ≡ 0 → WellFormed (rule_of h counts clauses)
  unfolding list_rows
  formed a e b =
      let r = ranges h a in
      let r₈ = first-pass (any_of counts (λ x. ltb 8 x)) _ _ b in
      let r₉ = first-pass (not (eqb (sum counts) (length clauses))) _ _ r₈.1 in
      let r₁₀ = first-pass (any_of clauses (names_beyond h.n)) _ _ r₉.1 in
      record {
        some_state = r.some_state;
        few_states = r.few_states;
        some_letter = r.some_letter;
        few_letters = r.few_letters;
        initial_state = r.initial_state;
        accepting_states = r.accepting_states;
        all_entries = e;
        few_clauses = λ x m. ltb-false 8 x (any_none counts (λ y. ltb 8 y) x r₈.0 m);
        all_clauses = eqb-true (sum counts) (length clauses) (not-false (eqb (sum counts) (length clauses)) r₉.0);
        clause_states = λ x m. leb-false (2 ^ h.n) x (any_none clauses (names_beyond h.n) x r₁₀.0 m);
      }

  module _ (w : WellFormed (rule_of h counts clauses)) where
    pub formed-numbers : first_row (number_rows h) ≡ 0
    formed-numbers = sym (pass-6 h w.some_state w.few_states w.some_letter w.few_letters w.initial_state w.accepting_states)

    pub formed-lists : first_row (list_rows h.n counts clauses) ≡ 0
    formed-lists = sym (pass-10 h.n counts clauses
        (none_any counts (leb 9) (λ x m. le-ltb 8 x (w.few_clauses x m)))
        w.all_clauses
        (none_any clauses (leb (2 ^ h.n)) (λ x m. lt-leb (2 ^ h.n) x (w.clause_states x m))))

module _ (r : Rule) where
  -- a well-formed rule that row 11 passes, passes every check
  pub passing : WellFormed r → first_row (component_rows r) ≡ 0 → Passing r
  passing w e = unfold component_rows in record { formed = w; unmixed = (unmixed-iff r).0 (first-pass (mixed r) _ [] e).0 }

  pub passing-components : Passing r → first_row (component_rows r) ≡ 0
  passing-components p = unfold component_rows first_row in rw ((unmixed-iff r).1 p.unmixed)

  pub row-20 : some_nested r ≡ true → 20 ≡ first_row (clause_rows r)
  row-20 e = unfold clause_rows first_row in rw e

  pub pass-20 : some_nested r ≡ false → 0 ≡ first_row (clause_rows r)
  pass-20 e = unfold clause_rows first_row in rw e

  -- what row 20 passes has no nested entry
  pub passed-20 : first_row (clause_rows r) ≡ 0 → some_nested r ≡ false
  passed-20 e = unfold clause_rows in (first-pass (some_nested r) _ [] e).0

  clauses-numbered : numbered (clause_rows r) ≡ true
  clauses-numbered = unfold numbered clause_rows in refl

  -- row 20, then row 11
  pub by-clauses : (k : ℕ) → (k ≡ 0 → ⊥) → k ≡ first_row (clause_rows r) → k ≡ first_row (formed_rows r)
  by-clauses k n e = unfold formed_rows in first-left (clause_rows r) _ k n e

  pub past-clauses : first_row (clause_rows r) ≡ 0 → first_row (formed_rows r) ≡ first_row (component_rows r)
  past-clauses e = unfold formed_rows in first-right (clause_rows r) _ clauses-numbered e

  pub formed-parts : first_row (formed_rows r) ≡ 0 → (first_row (clause_rows r) ≡ 0) × (first_row (component_rows r) ≡ 0)
  formed-parts e = unfold formed_rows in first-parts (clause_rows r) _ clauses-numbered e

  -- what rows 20 and 11 pass, of a well-formed rule
  pub formed-passing : WellFormed r → first_row (formed_rows r) ≡ 0 → Passing r
  formed-passing w e = passing w (formed-parts e).1

  pub formed-apart : first_row (formed_rows r) ≡ 0 → some_nested r ≡ false
  formed-apart e = passed-20 (formed-parts e).0

  -- and nothing else
  pub passing-formed : Passing r → some_nested r ≡ false → first_row (formed_rows r) ≡ 0
  passing-formed p e = past-clauses (sym (pass-20 e)) ∙ passing-components p

  pub row-11 : mixed r ≡ true → 11 ≡ first_row (component_rows r)
  row-11 e = unfold component_rows first_row in rw e

  pub pass-11 : mixed r ≡ false → 0 ≡ first_row (component_rows r)
  pass-11 e = unfold component_rows first_row in rw e
