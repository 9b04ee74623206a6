-- Laws of the writer's definitions: the file in three parts, and the answer by the tests that led there.
use Prim.Native.Nat.{ℕ, zero, suc, ◌+◌, ◌*◌, ◌≤◌, ◌<◌}
use mathlib.Core.Path.{◌≡◌, refl, ap, ap₂, sym, ◌∙◌}
use mathlib.Core.Bool.{true, false, not}
use mathlib.Core.List.{List, [], ◌∷◌, ◌++◌, append_assoc, Memᴰ}
use native.Mathlib.Omega.{arith}
use native.Mathlib.Nat.{zero-add}
use borrow.Author.Tests.{le-ltb, lt-ltb, eq-eqb, ne_eqb, eqb-true, not-false}
use lib.Dec.{eqb}
use lib.ListN.{length, take, drop, length-append}
use lib.Seq.{paste, take-paste, drop-paste, drop-drop, take-length}
use Rattle.sets.specs.Lists.{sum}
use Rattle.std.specs.Prelude.{Ok, Err}
use Rattle.refusals.specs.declared.Refusal.{Refusal}
use Rattle.refusals.specs.declared.Refusal.TheVariants.{Slice}
use Rattle.refusals.specs.Rows.{first_refusal, first_row}
use Rattle.refusals.proofs.Rows.{numbered, first-left, first-right, first-parts, first-pass, row-passes, refused-suc, refusal_and, refusal-left, refusal-right}
use Rattle.theory.specs.Rule.{Rule}
use Rattle.theory.specs.Passing.{WellFormed, Passing}
use Rattle.rule_entries.proofs.Entries.{entries-few, accepting-small}
use Rattle.rule_entries.specs.declared.Head.{Head}
use Rattle.rule_entries.specs.Entries.{rule_of}
use Rattle.file_spec.specs.File.{body_of}
use Rattle.file_spec.specs.Names.{names_tag, preface_from}
use Rattle.file_spec.specs.Rows.{name_rows, given_rows}
use Rattle.file_spec.specs.RuleRows.{number_rows, list_rows, some_nested, clause_rows, component_rows, formed_rows}
use Rattle.file_read.proofs.Layouts.{length-body}
use Rattle.file_spec.proofs.Numbers.{Ranges, ranges}
use Rattle.file_spec.proofs.Formed.{formed, formed-passing, formed-apart}
use Rattle.file_write_spec.specs.Written.{InBytes, rule_rows, given_rule_rows, slice_rows, file_of, write_rows, write_row, written_of, after, slice_after}

-- ---- parts, one after the other

-- b put after a
pub paste-two : (d : List ℕ) (at : ℕ) (a b : List ℕ) → at + length a + length b ≤ length d
    → paste (paste d at a (length a)) (at + length a) b (length b) ≡ paste d at (a ++ b) (length (a ++ b))
paste-two d at a b l =
    let e : List ℕ = paste d at a (length a) in
    let front : take (at + length a) e ≡ take at d ++ a =
    take-paste d at a (length a) (omega arith) (omega arith) ∙ ap (λ (t : List ℕ). take at d ++ t) (take-length a) in
    let same : at + length a + length b ≡ at + length (a ++ b) = omega (arith, length-append a b) in
    let back : drop (at + length a + length b) e ≡ drop (at + length (a ++ b)) d =
    sym (drop-drop (length b) (at + length a) e) ∙ ap (drop (length b)) (drop-paste d at a (length a) (omega arith) (omega arith))
    ∙ drop-drop (length b) (at + length a) d ∙ ap (λ (k : ℕ). drop k d) same in
    ap₂ (λ (x y : List ℕ). (x ++ take (length b) b) ++ y) front back
    ∙ ap (λ (t : List ℕ). ((take at d ++ a) ++ t) ++ drop (at + length (a ++ b)) d) (take-length b)
    ∙ ap (λ (t : List ℕ). t ++ drop (at + length (a ++ b)) d) (append_assoc (take at d) a b ∙ ap (λ (t : List ℕ). take at d ++ t) (sym (take-length (a ++ b))))

-- three parts, one after the other
pub paste-three : (d : List ℕ) (at : ℕ) (a b t : List ℕ) → at + length a + length b + length t ≤ length d
    → paste (paste (paste d at a (length a)) (at + length a) b (length b)) (at + length a + length b) t (length t)
    ≡ paste d at (a ++ (b ++ t)) (length (a ++ (b ++ t)))
paste-three d at a b t l =
    let m : length (a ++ b) ≡ length a + length b = length-append a b in
    let k : at + length a + length b ≡ at + length (a ++ b) = omega arith in
    ap (λ (e : List ℕ). paste e (at + length a + length b) t (length t)) (paste-two d at a b (omega arith))
    ∙ ap (λ (i : ℕ). paste (paste d at (a ++ b) (length (a ++ b))) i t (length t)) k ∙ paste-two d at (a ++ b) t (omega arith)
    ∙ ap (λ (x : List ℕ). paste d at x (length x)) (append_assoc a b t)

-- at the start of a slice
pub paste-start : (d x : List ℕ) → paste d 0 x (length x) ≡ after 0 x d
paste-start d x = unfold after in rw (take-length x, zero-add (length x))

pub length-preface : (names : List ℕ) → (length names ≡ 0 → length (preface_from names) ≡ 0) × ((length names ≡ 0 → ⊥) → length (preface_from names) ≡ length names + 2)
unfolding preface_from
length-preface [] = (λ e. refl, λ n. absurd (n refl))
length-preface (x ∷ xs) = (λ e. absurd (omega arith), λ n. length-append (x ∷ xs) names_tag)

pub preface-most : (names : List ℕ) → length (preface_from names) ≤ length names + 2
unfolding preface_from
preface-most [] = omega arith
preface-most (x ∷ xs) = omega (arith, length-append (x ∷ xs) names_tag)

pub length-file : (h : Head) (counts clauses names : List ℕ) → length (file_of h counts clauses names) ≡ length (preface_from names) + length clauses + length counts + 8
length-file h counts clauses names = omega (arith, length-append (preface_from names) (body_of (rule_of h counts clauses)), length-body (rule_of h counts clauses))

-- ---- the rows of the rule

module _ (h : Head) (counts clauses : List ℕ) where
  numbers-numbered : numbered (number_rows h) ≡ true
  numbers-numbered = unfold numbered number_rows in refl

  lists-numbered : numbered (list_rows h.n counts clauses) ≡ true
  lists-numbered = unfold numbered list_rows in refl

  pub rows-numbered : numbered (rule_rows h counts clauses) ≡ true
  rows-numbered = unfold numbered rule_rows number_rows list_rows formed_rows clause_rows component_rows in refl

  -- what no row refuses passes every check of 01, and row 20
  pub rule-served : first_row (rule_rows h counts clauses) ≡ 0 → Passing (rule_of h counts clauses) × (some_nested (rule_of h counts clauses) ≡ false)
  unfolding rule_rows
  rule-served e =
      let a = first-parts (number_rows h) _ numbers-numbered e in
      let r₇ = first-pass (not (eqb (length counts) (h.n * h.s))) _ _ a.1 in
      let b = first-parts (list_rows h.n counts clauses) _ lists-numbered r₇.1 in
      let l = eqb-true (length counts) (h.n * h.s) (not-false (eqb (length counts) (h.n * h.s)) r₇.0) in
      (formed-passing (rule_of h counts clauses) (formed h counts clauses a.0 l b.0) b.1, formed-apart (rule_of h counts clauses) b.1)

  pub rule-passing : first_row (rule_rows h counts clauses) ≡ 0 → Passing (rule_of h counts clauses)
  rule-passing e = (rule-served e).0

  -- ---- what the writer answers and leaves in a slice that held old

  module _ (names : List ℕ) where
    pub given-rows-numbered : numbered (given_rule_rows h counts clauses names) ≡ true
    unfolding numbered given_rule_rows rule_rows number_rows list_rows formed_rows clause_rows component_rows given_rows name_rows
    given-rows-numbered = refl

    given_both : first_refusal (rule_rows h counts clauses) ≡ Ok tt → first_refusal (given_rows h.s names) ≡ Ok tt → first_refusal (given_rule_rows h counts clauses names) ≡ Ok tt
    given_both a b = unfold given_rule_rows in refusal-right (rule_rows h counts clauses) _ a ∙ b

    pub given-parts : first_row (given_rule_rows h counts clauses names) ≡ 0 → (first_row (rule_rows h counts clauses) ≡ 0) × (first_row (given_rows h.s names) ≡ 0)
    given-parts e = unfold given_rule_rows in first-parts (rule_rows h counts clauses) _ rows-numbered e

    module _ (old : List ℕ) where
      -- a refusal
      abbrev pub Said : Refusal → Type 0
      Said r = (Err r ≡ written_of h counts clauses names (length old)) × (old ≡ slice_after h counts clauses names old)

      said : (r : Refusal) → first_refusal (write_rows h counts clauses names (length old)) ≡ Err r → Said r
      unfolding written_of slice_after write_row after
      said r e = let k = refused-suc (write_rows h counts clauses names (length old)) r e in (rw e refl, rw k.1 refl)

      by-given : (r : Refusal) → first_refusal (given_rule_rows h counts clauses names) ≡ Err r → Said r
      by-given r e = said r (refusal-left (given_rule_rows h counts clauses names) _ r e)

      pub by-rule : (r : Refusal) → first_refusal (rule_rows h counts clauses) ≡ Err r → Said r
      by-rule r e = by-given r (unfold given_rule_rows in refusal-left (rule_rows h counts clauses) _ r e)

      module _ (e : first_refusal (rule_rows h counts clauses) ≡ Ok tt) where
        pub by_names : (r : Refusal) → first_refusal (given_rows h.s names) ≡ Err r → Said r
        by_names r f = by-given r (unfold given_rule_rows in refusal-right (rule_rows h counts clauses) _ e ∙ f)

        module _ (f : first_refusal (given_rows h.s names) ≡ Ok tt) where
          by-slice : first_refusal (write_rows h counts clauses names (length old)) ≡ first_refusal (slice_rows (length old) (file_of h counts clauses names))
          by-slice = refusal-right (given_rule_rows h counts clauses names) _ (given_both e f)

          pub by-room : length old < length (preface_from names) + length clauses + length counts + 8 → Said Slice
          unfolding slice_rows first_refusal
          by-room l = let m : length old < length (file_of h counts clauses names) = rw (length-file h counts clauses names) l in said Slice (by-slice ∙ rw (lt-ltb _ _ m))

          pub done : length (preface_from names) + length clauses + length counts + 8 ≤ length old
              → (Ok (length (preface_from names) + length clauses + length counts + 8) ≡ written_of h counts clauses names (length old))
              × (after 0 (file_of h counts clauses names) old ≡ slice_after h counts clauses names old)
          unfolding written_of slice_after write_row slice_rows first_refusal
          done l =
              let m : length (file_of h counts clauses names) ≤ length old = rw (length-file h counts clauses names) l in
              let n : first_refusal (write_rows h counts clauses names (length old)) ≡ Ok tt = by-slice ∙ rw (le-ltb _ _ m) in (
                rw n (ap Ok (sym (length-file h counts clauses names))),
                rw (row-passes (write_rows h counts clauses names (length old)) n) refl,
              )

-- ---- the sizes of what no row refuses

sum-le : (xs : List ℕ) → ((x : ℕ) → Memᴰ x xs → x ≤ 8) → sum xs ≤ 8 * length xs
unfolding sum
sum-le [] h = omega arith
sum-le (x ∷ xs) h = let a = h x (Memᴰ.head refl) in let b = sum-le xs (λ y m. h y (Memᴰ.tail m)) in omega arith

pub clauses-few : (r : Rule) → WellFormed r → length r.clauses ≤ 1024
clauses-few r w = omega (arith, sum-le r.counts w.few_clauses, entries-few r w, w.all_clauses)

pub head-in-bytes : (h : Head) (counts clauses : List ℕ) → WellFormed (rule_of h counts clauses) → (c : ℕ) → c ≤ 1024 → InBytes h c
head-in-bytes h counts clauses w c l = record {
  n = omega (arith, w.few_states);
  s = omega (arith, w.few_letters);
  initial = omega (arith, w.initial_state, w.few_states);
  accepting = accepting-small (rule_of h counts clauses) w;
  count = omega arith;
}

-- the sizes of a rule that no row refuses
pub record Sized (h : Head) (counts clauses : List ℕ) : Type 0 where
  pub few_letters : h.s ≤ 16
  pub few_counts : length counts ≤ 128
  pub in_bytes : InBytes h (length clauses)

pub sized : (h : Head) (counts clauses : List ℕ) → first_refusal (rule_rows h counts clauses) ≡ Ok tt → Sized h counts clauses
sized h counts clauses e =
    let w = (rule-passing h counts clauses (row-passes (rule_rows h counts clauses) e)).formed in
    record {
      few_letters = w.few_letters;
      few_counts = entries-few (rule_of h counts clauses) w;
      in_bytes = head-in-bytes h counts clauses w (length clauses) (clauses-few (rule_of h counts clauses) w);
    }

-- what rows 3 to 10 pass
pub formed_by : (h : Head) (counts clauses : List ℕ) → first_refusal (number_rows h) ≡ Ok tt → length counts ≡ h.n * h.s → first_refusal (list_rows h.n counts clauses) ≡ Ok tt
    → WellFormed (rule_of h counts clauses)
formed_by h counts clauses a l b = formed h counts clauses (row-passes (number_rows h) a) l (row-passes (list_rows h.n counts clauses) b)

pub ranges_by : (h : Head) → first_refusal (number_rows h) ≡ Ok tt → Ranges h
ranges_by h e = ranges h (row-passes (number_rows h) e)

-- what the rows of the writer cite
pub ruleset writing = (refusal_and, ranges_by, formed_by)
