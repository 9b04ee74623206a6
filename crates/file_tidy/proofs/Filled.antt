-- The tidied rule in the fronts of two slices.
use Prim.Native.Nat.{ℕ, ◌+◌, ◌≤◌}
use mathlib.Core.Path.{◌≡◌, ap, ap₂, sym, ◌∙◌}
use mathlib.Core.List.{List, ◌++◌}
use native.Mathlib.Omega.{arith}
use lib.ListN.{length, take, drop, length-append}
use lib.Seq.{take_at, length-take-le}
use Rattle.theory.specs.Passing.{WellFormed}
use Rattle.rule_entries.specs.declared.Head.{Head}
use Rattle.rule_entries.specs.Entries.{rule_of}
use Rattle.rule_entries.proofs.Entries.{entries-few}
use Rattle.rule_tidy_spec.specs.Tidy.{tidy_rule_lem}
use Rattle.rule_tidy.specs.Filled.{filled}
use Rattle.file_spec.specs.File.{body_of}
use Rattle.file_spec.specs.Names.{preface_from}
use Rattle.file_write_spec.specs.Written.{file_of}
use Rattle.file_write_spec.proofs.Laws.{clauses-few}
use Rattle.file_tidy_spec.proofs.Laws.{length-tidied, tidied-entries, tidied-clauses}

front_of : (front old new : List ℕ) (k : ℕ) → new ≡ filled front old → k ≡ length front → (take k new ≡ front) × (k ≤ length new)
front_of front old new k e h =
    (ap (take k) e ∙ take_at front (drop (length front) old) k (sym h), omega (arith, ap length e, length-append front (drop (length front) old)))

-- the tidied rule of h, counts and clauses: its counts in front of counts2, its clauses, kept of them, in front of clauses2; with any names
pub record Fronts (h : Head) (counts clauses counts2 clauses2 : List ℕ) (kept : ℕ) : Type 0 where
  pub few-entries : length counts ≤ 128
  pub few_clauses : kept ≤ 1024
  pub counts-room : length counts ≤ length counts2
  pub clauses-room : kept ≤ length clauses2
  pub counts-long : length (take (length counts) counts2) ≡ length counts
  pub clauses-long : length (take kept clauses2) ≡ kept
  pub long : (names : List ℕ) → length (preface_from names ++ body_of (tidy_rule_lem (rule_of h counts clauses))) ≡ length (preface_from names) + kept + length counts + 8
  pub file : (names : List ℕ) → file_of h (take (length counts) counts2) (take kept clauses2) names ≡ preface_from names ++ body_of (tidy_rule_lem (rule_of h counts clauses))

pub fronts : (h : Head) (counts clauses oldcounts oldclauses : List ℕ) {counts2 clauses2 : List ℕ} {kept : ℕ} → WellFormed (rule_of h counts clauses)
    → kept ≡ length (tidy_rule_lem (rule_of h counts clauses)).clauses
    → counts2 ≡ filled (tidy_rule_lem (rule_of h counts clauses)).counts oldcounts
    → clauses2 ≡ filled (tidy_rule_lem (rule_of h counts clauses)).clauses oldclauses
    → Fronts h counts clauses counts2 clauses2 kept
unfolding tidy_rule_lem
fronts h counts clauses oldcounts oldclauses {counts2} {clauses2} {kept} w e a b =
    let r = rule_of h counts clauses in
    let n = sym (tidied-entries r w) in
    let x = front_of (tidy_rule_lem r).counts oldcounts counts2 (length counts) a n in
    let y = front_of (tidy_rule_lem r).clauses oldclauses clauses2 kept b e in
    record {
      few-entries = entries-few r w;
      few_clauses = omega (arith, e, tidied-clauses r w, clauses-few r w);
      counts-room = x.1;
      clauses-room = y.1;
      counts-long = length-take-le (length counts) counts2 x.1;
      clauses-long = length-take-le kept clauses2 y.1;
      long = λ names. omega (arith, length-tidied (preface_from names) (tidy_rule_lem r), e, n);
      file = λ names. ap₂ (λ (c k : List ℕ). file_of h c k names) x.0 y.0;
    }
