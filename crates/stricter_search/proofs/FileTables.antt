-- The tables of two accepted files.
use mathlib.Core.Path.{◌≡◌, ap, ◌∙◌}
use mathlib.Core.List.{List}
use Prim.Native.Nat.{ℕ, zero, suc, ◌*◌, ◌≤◌, ◌<◌}
use native.Mathlib.Omega.{arith}
use native.Mathlib.Nat.{mul-zero, mul-suc, zero-mul, suc-mul}
use lib.Arith.{digits_lt}
use lib.ListN.{length}
use Rattle.sets.specs.Tests.{Set}
use Rattle.theory.specs.Automaton.{automaton}
use Rattle.theory.specs.Rule.{Rule}
use Rattle.theory.specs.TableComputed.{macrostates_from}
use Rattle.file_spec.specs.declared.Layout.{Layout}
use Rattle.file_read.proofs.Answer.{served}
use Rattle.file_spec.specs.File.{rule_in}
use Rattle.build.proofs.ByLists.{codes_same, moves-same}
use Rattle.stricter_marks.specs.Sorted.{Sorted, TableOf}
use Rattle.stricter_search.specs.Lists.{FileLists}

module _ {f : List ℕ} {l : Layout} {start : Rule → Set} {codes moves : List ℕ} (L : FileLists f l start codes moves) where
  -- the initial state is one of eight
  pub initial-low : l.head.initial < 8
  initial-low =
      let s = served f l L.read in
      let e = ap (λ (x : Layout). x.head.initial) s.layout in
      omega (arith, s.passing.formed.initial_state, s.passing.formed.few_states)

  -- the table as the steps by cores take it
  pub file-table : {count : ℕ} → count ≡ (automaton (rule_in f)).components → TableOf (rule_in f) (start (rule_in f)) count codes moves
  file-table e =
      let P = (served f l L.read).passing in
      let c = codes_same (rule_in f) P codes moves L.lists in
      let few : length (macrostates_from (rule_in f) (start (rule_in f))) ≤ 65536 = rw c at L.few in
      record { passing = P; counted = e; few = L.few; codes_are = c; moves_are = moves-same (rule_in f) P codes moves L.lists few }

-- without pairs no run of each table goes over one sequence of letters
pub no_pairs : (ca ma : List ℕ) (s : Set) (cb mb : List ℕ) (t : Set) (marks : List ℕ) → length marks ≡ length ca * length cb → length marks ≡ 0
    → Sorted ca ma s cb mb t marks 0
no_pairs ca ma s cb mb t marks e z = record {
  long = e;
  within = omega arith;
  sound = λ l. absurd (omega arith);
  inside = λ l. absurd (omega arith);
  begins = λ l. absurd (omega arith);
  none = λ l w x y A B.
      let h = digits_lt {q = x 0} {m = length ca} {c = length cb} (A.run.within 0) (B.run.within 0) in
      omega arith;
}

-- a pair for each number of either table, where there are pairs
pub room-A : (n m p : ℕ) → p ≡ n * m → (p ≡ 0 → ⊥) → n ≤ p
room-A n zero p e h = absurd (h (e ∙ mul-zero n))
room-A n (suc m) p e h = let o = mul-suc n m in omega (arith, e)

pub room-B : (n m p : ℕ) → p ≡ n * m → (p ≡ 0 → ⊥) → m ≤ p
room-B zero m p e h = absurd (h (e ∙ zero-mul m))
room-B (suc n) m p e h = let o = suc-mul n m in omega (arith, e)
