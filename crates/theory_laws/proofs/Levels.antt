-- Levels: one step back over the letter a, from a core with the set T and ranks t to the set S.
use mathlib.Core.Path.{◌≡◌, refl, sym, ◌∙◌, ap}
use mathlib.Core.Bool.{true}
use mathlib.Core.List.{List}
use Prim.Native.Nat.{ℕ, ◌≤◌, ◌<◌}
use native.Mathlib.Nat.{le_trans, le_antisymm, le_refl}
use lib.Dec.{leb}
use borrow.Author.Tests.{leb-true, le-leb, eq-eqb}
use Rattle.sets.specs.Tests.{Set, largest}
use Rattle.sets.specs.Masks.{exclusive}
use Rattle.sets.proofs.Bools.{and_l, and_r, and_i}
use Rattle.sets.proofs.Tests.{first-leb, largest-ge}
use Rattle.theory.specs.Automaton.{Automaton}
use Rattle.theory.specs.Layered.{Layered}
use Rattle.theory.specs.Core.{Least, is_open, settled, settled_up_to, open_of_lem}
use Rattle.theory.specs.CoreComputed.{level_of}
use Rattle.theory.specs.Rule.{satisfies}
use Rattle.theory_laws.proofs.Pursuit.{open-kind}
use Rattle.theory_laws.proofs.Settled.{settled-mono, settled-all}

-- a least number is one
pub least-unique : (f : Set) (i j : ℕ) → Least f i → Least f j → i ≡ j
least-unique f i j x y = le_antisymm (x.least j y.holds) (y.least i x.holds)

module _ (A : Automaton) (T : Set) (t : ℕ → ℕ) (q : ℕ) (e : List ℕ) where
  -- the test of a level goes on holding
  pub test-mono : (i j : ℕ) → i ≤ j → settled_up_to A T t q e i ≡ true → settled_up_to A T t q e j ≡ true
  unfolding settled_up_to
  test-mono i j h = settled-mono A _ _ _ q _ (λ p m s x. and_i (and_l (is_open A T p) _ x) (le-leb (t p) j (le_trans (leb-true (t p) i (and_r (is_open A T p) _ x)) h)))

module _ (A : Automaton) (H : Layered A) (a : ℕ) (S T : Set) (exact : (q : ℕ) → q < A.n → S q ≡ satisfies A.n T (A.entry q a)) where
  -- an open state is settled by all the open states after it
  pub open-settled : (q : ℕ) → q < A.n → is_open A S q ≡ true → settled A T (is_open A T) q (A.entry q a) ≡ true
  open-settled q l o = settled-all A H T q l _ ∙ ap (exclusive (A.accepting q)) (sym (exact q l)) ∙ sym (open-kind A (A.accepting q) S q refl) ∙ o

  module _ (t : ℕ → ℕ) where
    -- its test holds at every number that no rank of its component exceeds
    pub test-top : (q : ℕ) → q < A.n → is_open A S q ≡ true → (m : ℕ) → ((p : ℕ) → p < A.n → A.component p ≡ A.component q → is_open A T p ≡ true → t p ≤ m)
        → settled_up_to A T t q (A.entry q a) m ≡ true
    unfolding settled_up_to
    test-top q l o m h = settled-mono A _ (is_open A T) _ q _ (λ p n s x. and_i x (le-leb (t p) m (h p n s x))) (open-settled q l o)

    class-le : (q p : ℕ) → p < A.n → A.component p ≡ A.component q → is_open A T p ≡ true → t p ≤ largest A.n (open_of_lem A T (A.component q)) t
    unfolding open_of_lem
    class-le q p n s x = largest-ge A.n (open_of_lem A T (A.component q)) t p n (and_i (eq-eqb _ _ s) x)

    -- a level is at most the number of classes of its component in T
    pub least-classes : (q : ℕ) → q < A.n → is_open A S q ≡ true → (j : ℕ) → Least (settled_up_to A T t q (A.entry q a)) j → j ≤ largest A.n (open_of_lem A T (A.component q)) t
    least-classes q l o j x = x.least _ (test-top q l o _ (class-le q))

    module _ (B : ℕ) (bound : (p : ℕ) → p < A.n → t p ≤ B) where
      -- the computed level is at most c exactly if the test holds at c
      pub level-test : (q : ℕ) → q < A.n → is_open A S q ≡ true → (c : ℕ) → leb (level_of A B T t q (A.entry q a)) c ≡ settled_up_to A T t q (A.entry q a) c
      unfolding level_of
      level-test q l o c = first-leb B (settled_up_to A T t q (A.entry q a)) (test-mono A T t q (A.entry q a)) (test-top q l o B (λ p n s x. bound p n)) c

      -- the computed level is the level
      pub level-least : (q : ℕ) → q < A.n → is_open A S q ≡ true → Least (settled_up_to A T t q (A.entry q a)) (level_of A B T t q (A.entry q a))
      level-least q l o = record {
        holds = sym (level-test q l o (level_of A B T t q (A.entry q a))) ∙ le-leb (level_of A B T t q (A.entry q a)) (level_of A B T t q (A.entry q a)) (le_refl _);
        least = λ i x. leb-true _ i (level-test q l o i ∙ x);
      }
