-- The transitions of a number: in an ascending list they stand together.
use mathlib.Core.Path.{◌≡◌, refl, sym, ◌∙◌, ap}
use mathlib.Core.Bool.{true, false}
use mathlib.Core.List.{List, [], ◌∷◌}
use mathlib.Core.Logic.{by_cases}
use Prim.Native.Nat.{ℕ, zero, suc, ◌+◌, ◌-◌, ◌<◌, ◌≤◌}
use native.Mathlib.Omega.{arith}
use native.Mathlib.Decide.{dec_lt, ℕ_discrete}
use lib.Dec.{eqb}
use lib.ListN.{length, get_or, take, drop}
use borrow.Author.Tests.{eq-eqb, ne_eqb}
use Rattle.sets.specs.Tests.{Set}
use Rattle.sets.specs.Lists.{keep, Ascending}
use Rattle.sets.proofs.Ascending.{asc-at}
use Rattle.theory.specs.Run.{source_of}
use Rattle.hoa_spec.specs.Text.{leaving}
use Rattle.hoa_laws.specs.Cursor.{Cursor, Stretch}

pub keep-yes : (f : Set) (x : ℕ) (xs : List ℕ) → f x ≡ true → keep f (x ∷ xs) ≡ x ∷ keep f xs
unfolding keep
keep-yes f x xs e = rw (e, keep)

pub keep-no : (f : Set) (x : ℕ) (xs : List ℕ) → f x ≡ false → keep f (x ∷ xs) ≡ keep f xs
unfolding keep
keep-no f x xs e = rw (e, keep)

module _ (i : ℕ) where
  -- those at the c places from j on pass, and no other does
  stretch : (ts : List ℕ) (j c : ℕ) → j + c ≤ length ts
      → ((p : ℕ) → p < j → source_of (get_or ts p 0) ≡ i → ⊥)
      → ((p : ℕ) → j ≤ p → p < j + c → source_of (get_or ts p 0) ≡ i)
      → ((p : ℕ) → j + c ≤ p → p < length ts → source_of (get_or ts p 0) ≡ i → ⊥)
      → keep (λ t. eqb (source_of t) i) ts ≡ take c (drop j ts)
  unfolding keep
  stretch [] zero zero b f g h = refl
  stretch [] zero (suc c) b f g h = absurd (omega arith)
  stretch [] (suc j) c b f g h = absurd (omega arith)
  stretch (t ∷ ts) (suc j) c b f g h =
      keep-no (λ t. eqb (source_of t) i) t ts (ne_eqb (source_of t) i (f 0 (omega arith)))
      ∙ stretch ts j c (omega arith) (λ p l. f (suc p) (omega arith)) (λ p l m. g (suc p) (omega arith) (omega arith)) (λ p l m. h (suc p) (omega arith) (omega arith))
  stretch (t ∷ ts) zero (suc c) b f g h =
      keep-yes (λ t. eqb (source_of t) i) t ts (eq-eqb (source_of t) i (g 0 (omega arith) (omega arith)))
      ∙ ap (λ (xs : List ℕ). t ∷ xs) (stretch ts zero c (omega arith) (λ p l. absurd (omega arith)) (λ p l m. g (suc p) (omega arith) (omega arith)) (λ p l m. h (suc p) (omega arith) (omega arith)))
  stretch (t ∷ ts) zero zero b f g h =
      keep-no (λ t. eqb (source_of t) i) t ts (ne_eqb (source_of t) i (h 0 (omega arith) (omega arith)))
      ∙ stretch ts zero zero (omega arith) (λ p l. absurd (omega arith)) (λ p l m. absurd (omega arith)) (λ p l m. h (suc p) (omega arith) (omega arith))

-- before the first number
pub cursor-start : (ts : List ℕ) → Cursor ts 0 0
cursor-start ts = record { within = omega arith; before = λ p l. absurd (omega arith); after = λ p l m. omega arith }

module _ (ts : List ℕ) (asc : Ascending ts) (i j k : ℕ) (C : Cursor ts i j) (R : Stretch ts i j k) where
  -- sources ascend, so from place k on they are above i
  above : (p : ℕ) → k ≤ p → p < length ts → i < source_of (get_or ts p 0)
  above p l m =
      let first : i < source_of (get_or ts k 0) =
      let a = C.after k R.from (omega arith) in
      by_cases (ℕ_discrete (source_of (get_or ts k 0)) i) (λ e. absurd (R.last (omega arith) e)) (λ n. omega arith) in
      by_cases (ℕ_discrete k p)
      (λ e. rw (sym e) first)
      (λ n. let o = asc-at ts asc k p (omega arith) m in omega arith)

  -- the transitions of number i
  pub leaving-is : leaving ts i ≡ take (k - j) (drop j ts)
  unfolding leaving
  leaving-is =
      stretch i ts j (k - j) (omega (arith, R.from, R.within))
      (λ p l e. let b = C.before p l in omega arith)
      (λ p l m. R.all p l (omega (arith, R.from)))
      (λ p l m e. let b = above p (omega (arith, R.from)) m in omega arith)

  -- and where those of the next number begin
  pub cursor-next : Cursor ts (i + 1) k
  cursor-next = record {
    within = R.within;
    before = λ p l. by_cases (dec_lt p j) (λ h. let b = C.before p h in omega arith) (λ n. let a = R.all p (omega arith) l in omega arith);
    after = λ p l m. let b = above p l m in omega arith;
  }
