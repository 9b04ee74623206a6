-- Laws of nested entries: the test of one clause on masks, and the states from n on.
use Prim.Native.Nat.{ℕ, ◌<◌, ◌≤◌, ◌^◌}
use mathlib.Core.Path.{◌≡◌, ap, sym, ◌∙◌}
use mathlib.Core.Bool.{Bool, false, ◌&&◌, not}
use mathlib.Core.List.{List, Memᴰ}
use borrow.Author.Tests.{eq-eqb, ne_eqb}
use lib.Bits.{bit_and}
use lib.Dec.{eqb}
use lib.ListN.{length, get_or}
use Rattle.sets.specs.Tests.{some_below}
use Rattle.sets.specs.Masks.{bit}
use Rattle.sets.proofs.Tests.{some-ext}
use Rattle.sets.proofs.Lists.{mem-at}
use Rattle.sets.proofs.Members.{inside-trim}
use Rattle.theory.specs.Rule.{Rule, entry}
use Rattle.theory.specs.Passing.{WellFormed}
use Rattle.rule_entries.proofs.Clauses.{inside-and}
use Rattle.rule_entries.proofs.Entries.{entry-states}
use Rattle.file_spec.specs.RuleRows.{contains_at_lem, nested}

-- ---- one clause

module _ (cs : List ℕ) (i j : ℕ) where
  -- a clause is not compared with itself
  pub same_place : i ≡ j → false ≡ contains_at_lem 8 cs i j
  same_place e = rw (eq-eqb i j e)

  pub two-places : (i ≡ j → ⊥) → get_or cs j 0 < 256 → eqb (bit_and (get_or cs j 0) (get_or cs i 0)) (get_or cs j 0) ≡ contains_at_lem 8 cs i j
  two-places n l = rw (ne_eqb i j n) (inside-and (get_or cs i 0) (get_or cs j 0) l)

-- ---- states from n on are in no clause

nested-trim : (n : ℕ) (cs : List ℕ) → n ≤ 8 → ((c : ℕ) → Memᴰ c cs → c < 2 ^ n) → nested 8 cs ≡ nested n cs
unfolding nested
nested-trim n cs l h =
    some-ext (length cs) (λ i. some_below (length cs) (λ j. contains_at_lem 8 cs i j)) (λ i. some_below (length cs) (λ j. contains_at_lem n cs i j))
    (λ i u. some-ext (length cs) (λ j. contains_at_lem 8 cs i j) (λ j. contains_at_lem n cs i j)
    (λ j v. ap (λ (b : Bool). not (eqb i j) && b) (inside-trim n 8 (bit (get_or cs i 0)) (get_or cs j 0) l (h (get_or cs j 0) (mem-at cs j v)))))

-- what the code finds at a letter of a well-formed rule: the entry, then whether it is nested
pub nested-at : (r : Rule) → WellFormed r → (q a : ℕ) (cs : List ℕ) (b v : Bool) → q < r.n → a < r.s → cs ≡ entry r q a → b ≡ nested 8 cs → b ≡ v
    → nested r.n (entry r q a) ≡ v
nested-at r w q a cs b v l m e h k =
    sym (nested-trim r.n (entry r q a) w.few_states (entry-states r w q a l m)) ∙ ap (nested 8) (sym e) ∙ sym h ∙ k
