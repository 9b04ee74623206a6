-- A preface of either file that leaves its names as they are, and has none that is refused, has no effect on the sameness of two rules.
use Prim.Native.Nat.{ℕ}
use mathlib.Core.Path.{◌≡◌, ap, ap₂}
use mathlib.Core.List.{List, ◌++◌}
use Rattle.theory.specs.Rule.{Rule}
use Rattle.file_spec.specs.File.{NamedRule, names_of, named_in}
use Rattle.file_spec.specs.Rows.{preface_row_lem, file_rows_lem, file_row}
use Rattle.file_read.proofs.Prefaces.{preface-no-effect, accepted-after}
use Rattle.refusals.specs.Rows.{first_refusal}
use Rattle.refusals.proofs.Rows.{row-passes, refusal_and, refusal-same, answer-same}
use Rattle.rule_same.specs.Same.{same_named, same_rules_of}

abbrev with-names : Rule → List ℕ → NamedRule
with-names r names = record { rule = r; names = names }

-- an accepted file after more bytes is read as the same rule with the same names
named-after : (p f : List ℕ) → file_row f ≡ 0 → preface_row_lem (p ++ f) ≡ 0 → names_of (p ++ f) ≡ names_of f → named_in (p ++ f) ≡ named_in f
named-after p f e v n = ap₂ with-names (accepted-after p f e v).1 n

pub same-after-first : (p f g : List ℕ) → (file_row f ≡ 1 → ⊥) → (file_row f ≡ 7 → ⊥) → preface_row_lem f ≡ 0 → preface_row_lem (p ++ f) ≡ 0 → names_of (p ++ f) ≡ names_of f
    → same_rules_of (p ++ f) g ≡ same_rules_of f g
unfolding same_rules_of file_row
same-after-first p f g n₁ n₇ u v n =
    rw (refusal_and (file_rows_lem (p ++ f)) (file_rows_lem g), refusal_and (file_rows_lem f) (file_rows_lem g), refusal-same (file_rows_lem (p ++ f)) (file_rows_lem f) (preface-no-effect p f n₁ n₇ u v))
    (answer-same (first_refusal (file_rows_lem f)) (first_refusal (file_rows_lem g)) _ _ (λ a b. ap (λ (r : NamedRule). same_named r (named_in g)) (named-after p f (row-passes (file_rows_lem f) a) v n)))

pub same-after-second : (p f g : List ℕ) → (file_row g ≡ 1 → ⊥) → (file_row g ≡ 7 → ⊥) → preface_row_lem g ≡ 0 → preface_row_lem (p ++ g) ≡ 0 → names_of (p ++ g) ≡ names_of g
    → same_rules_of f (p ++ g) ≡ same_rules_of f g
unfolding same_rules_of file_row
same-after-second p f g n₁ n₇ u v n =
    rw (refusal_and (file_rows_lem f) (file_rows_lem (p ++ g)), refusal_and (file_rows_lem f) (file_rows_lem g), refusal-same (file_rows_lem (p ++ g)) (file_rows_lem g) (preface-no-effect p g n₁ n₇ u v))
    (answer-same (first_refusal (file_rows_lem f)) (first_refusal (file_rows_lem g)) _ _ (λ a b. ap (λ (r : NamedRule). same_named (named_in f) r) (named-after p g (row-passes (file_rows_lem g) b) v n)))
