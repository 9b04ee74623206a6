-- The comparison of two rules: a preface of either file brings no other verdict, and controllers in the field reach the same.
use Prim.Native.Nat.{ℕ, zero, suc, ◌<◌}
use mathlib.Core.Path.{◌≡◌, refl, sym, ◌∙◌}
use mathlib.Core.Bool.{Bool, true}
use mathlib.Core.List.{List, ◌++◌, append_assoc}
use mathlib.Core.Logic.{◌↔◌, by_cases}
use native.Mathlib.Decide.{ℕ_discrete}
use native.Mathlib.Omega.{arith}
use Rattle.std.specs.Prelude.{Result}
use Rattle.refusals.specs.declared.Refusal.{Refusal}
use Rattle.refusals.specs.Rows.{Check, number_of, refusal_at, first_refusal, first_row}
use Rattle.refusals.proofs.Rows.{numbered, number-above, first-left, first-right, first-parts}
use Rattle.theory.specs.Rule.{Rule}
use Rattle.file_spec.specs.File.{rule_in}
use Rattle.file_spec.specs.Rows.{trailer_rows, layout_rows, body_rows, name_rows, preface_rows, file_rows_lem, file_row, old_rows, old_row}
use Rattle.file_spec.specs.RuleRows.{number_rows, list_rows, clause_rows, component_rows, formed_rows}
use Rattle.file_read.proofs.FileRows.{file-numbered, old-numbered, old-accepts}
use Rattle.file_read.proofs.Prefaces.{preface-no-effect, accepted-after, holds_after}
use Rattle.build.specs.Built.{room_after}
use Rattle.stricter_entry_spec.specs.declared.Comparison.{Comparison}
use Rattle.stricter_entry_spec.specs.Rows.{Slices, tables_of, rules_rows, stricter_rows, stricter_row, zeroes_rooms}
use Rattle.stricter_entry_spec.specs.Compared.{ComparedBy}
use Rattle.agreements.proofs.Verdicts.{refusal_by, by_row, Before, both-alike}

both-numbered : (a b : List ℕ) → numbered (file_rows_lem a ++ file_rows_lem b) ≡ true
unfolding numbered file_rows_lem body_rows layout_rows trailer_rows number_rows list_rows formed_rows clause_rows component_rows preface_rows name_rows
both-numbered a b = refl

-- what a refusal leaves of a room, whatever was to be written there
refused-room : (zeroes : ℕ → Bool) (k : ℕ) → 0 < k → (xs ys lent : List ℕ) → room_after zeroes k xs lent ≡ room_after zeroes k ys lent
unfolding room_after
refused-room zeroes zero n xs ys lent = absurd (omega arith)
refused-room zeroes (suc k) n xs ys lent = refl

module _ (lent : Slices) (answer : Result Comparison Refusal) (left : Slices) where
  -- by a row and the rules A and B: the answer and all slices
  abbrev RulesBy : ℕ → Rule → Rule → Type 0
  RulesBy k a b = ComparedBy a b (tables_of a b) (refusal_by k) lent answer left

  -- what the contract says of two files
  abbrev Compares : List ℕ → List ℕ → Type 0
  Compares a b = ComparedBy (rule_in a) (rule_in b) (tables_of (rule_in a) (rule_in b)) (first_refusal (stricter_rows a b lent)) lent answer left

  by_number : (a b : List ℕ) → Compares a b ↔ RulesBy (stricter_row a b lent) (rule_in a) (rule_in b)
  unfolding stricter_row
  by_number a b = rw (by_row (stricter_rows a b lent)) (λ h. h, λ h. h)

  abbrev rules_rest : Rule → Rule → List Check
  rules_rest a b = rules_rows a b (tables_of a b) lent

  refused-alone : (k : ℕ) (a b c d : Rule) → RulesBy (suc k) a b → RulesBy (suc k) c d
  refused-alone k a b c d h =
      let n = number-above (refusal_at k) in
      let room = refused-room zeroes_rooms (number_of (refusal_at k)) n in
      record {
        told = h.told;
        codes_a_after = h.codes_a_after ∙ room _ _ lent.codes_a;
        transitions_a_after = h.transitions_a_after ∙ room _ _ lent.transitions_a;
        codes_b_after = h.codes_b_after ∙ room _ _ lent.codes_b;
        transitions_b_after = h.transitions_b_after ∙ room _ _ lent.transitions_b;
        scratch_after = h.scratch_after;
      }

  -- bytes before A
  pub first-preface : (p a b : List ℕ) → Before p a → Compares (p ++ a) b ↔ Compares a b
  unfolding stricter_row
  first-preface p a b B =
      let h = holds_after (λ r. file_rows_lem b ++ rules_rest r (rule_in b)) p a B.long B.fits B.names B.names-after
      (λ k r. RulesBy k r (rule_in b)) (λ k r t. refused-alone k r (rule_in b) t (rule_in b)) in
      (λ x. (by_number a b).1 (h.0 ((by_number (p ++ a) b).0 x)), λ x. (by_number (p ++ a) b).1 (h.1 ((by_number a b).0 x)))

  -- the rows of both files together
  by_both : (a b : List ℕ) → Compares a b ↔ RulesBy (first_row ((file_rows_lem a ++ file_rows_lem b) ++ rules_rest (rule_in a) (rule_in b))) (rule_in a) (rule_in b)
  unfolding stricter_row
  by_both a b = rw (append_assoc (file_rows_lem a) (file_rows_lem b) (rules_rest (rule_in a) (rule_in b))) (by_number a b)

  -- bytes before B
  pub second-preface : (p a b : List ℕ) → Before p b → Compares a (p ++ b) ↔ Compares a b
  unfolding file_row
  second-preface p a b B =
      let r = preface-no-effect p b B.long B.fits B.names B.names-after in
      let rows : first_row (file_rows_lem a ++ file_rows_lem (p ++ b)) ≡ first_row (file_rows_lem a ++ file_rows_lem b)
      = by_cases (ℕ_discrete (file_row a) 0)
      (λ e. first-right (file_rows_lem a) (file_rows_lem (p ++ b)) (file-numbered a) e ∙ r ∙ sym (first-right (file_rows_lem a) (file_rows_lem b) (file-numbered a) e))
      (λ n. sym (first-left (file_rows_lem a) (file_rows_lem (p ++ b)) (file_row a) n refl) ∙ first-left (file_rows_lem a) (file_rows_lem b) (file_row a) n refl) in
      let read : first_row (file_rows_lem a ++ file_rows_lem b) ≡ 0 → rule_in (p ++ b) ≡ rule_in b
      = λ e. (accepted-after p b (first-parts (file_rows_lem a) (file_rows_lem b) (file-numbered a) e).1 B.names-after).1 in
      let By : ℕ → Rule → Type 0 = λ k t. RulesBy k (rule_in a) t in
      let alone : (k : ℕ) (t u : Rule) → By (suc k) t → By (suc k) u = λ k t u. refused-alone k (rule_in a) t (rule_in a) u in
      let h = both-alike (rules_rest (rule_in a)) (file_rows_lem a ++ file_rows_lem (p ++ b)) (file_rows_lem a ++ file_rows_lem b) (both-numbered a (p ++ b)) (both-numbered a b)
      (rule_in (p ++ b)) (rule_in b) rows read By alone in
      (λ x. (by_both a b).1 (h.0 ((by_both a (p ++ b)).0 x)), λ x. (by_both a (p ++ b)).1 (h.1 ((by_both a b).0 x)))

  -- on two files that the new readers accept, the reader of 01 leads to the same
  pub both-in-the-field : (a b : List ℕ) → file_row a ≡ 0 → file_row b ≡ 0 → RulesBy (first_row (old_rows a ++ (old_rows b ++ rules_rest (rule_in a) (rule_in b)))) (rule_in a) (rule_in b) ↔ Compares a b
  unfolding stricter_row file_row old_row
  both-in-the-field a b e g =
      let rest = rules_rest (rule_in a) (rule_in b) in
      let rows : first_row (old_rows a ++ (old_rows b ++ rest)) ≡ first_row (file_rows_lem a ++ (file_rows_lem b ++ rest))
      = first-right (old_rows a) (old_rows b ++ rest) (old-numbered a) (old-accepts a e) ∙ first-right (old_rows b) rest (old-numbered b) (old-accepts b g)
      ∙ sym (first-right (file_rows_lem a) (file_rows_lem b ++ rest) (file-numbered a) e ∙ first-right (file_rows_lem b) rest (file-numbered b) g) in
      rw rows ((by_number a b).1, (by_number a b).0)
