-- Calls may be cut anywhere.
use mathlib.Core.Path.{◌≡◌, refl, sym, ap, ◌∙◌}
use mathlib.Core.Logic.{by_cases}
use mathlib.Core.Bool.{cond}
use mathlib.Core.List.{List, [], ◌∷◌, ◌++◌}
use Prim.Native.Nat.{ℕ, zero, suc, ◌+◌, ◌≤◌, ◌<◌}
use native.Mathlib.Decide.{ℕ_discrete}
use native.Mathlib.Omega.{arith}
use lib.Dec.{eqb, ltb}
use lib.ListN.{length, get_or, take}
use lib.Seq.{ext_get_or, get_or-take, take_at}
use borrow.Author.Tests.{eq-eqb, ne_eqb}
use Rattle.sets.specs.Lists.{tabulate}
use Rattle.sets.specs.Tests.{one}
use Rattle.sets.proofs.Lists.{length-tabulate}
use Rattle.live_spec.specs.Afresh.{is_in, stepped, stepped_over, members_of}
use Rattle.live_spec.proofs.Steps.{in_one, table_at, stepped-length, over-length}
use Rattle.live_laws.proofs.Reached.{Bytes, over-bytes}
use Rattle.follow_set.proofs.Letters.{stays-empty, emptied-none}
use Rattle.follow_spec.specs.Set.{flags, reached, emptied_after}

-- ---- the set as bytes 0 and 1

module _ (n : ℕ) where
  pub flags-length : (set : List ℕ) → length (flags n set) ≡ n
  unfolding flags
  flags-length set = length-tabulate n (λ y. one (is_in set y)) 0

  flags-bytes : (set : List ℕ) → Bytes (flags n set)
  unfolding flags
  flags-bytes set y l =
      let e = table_at n (λ z. one (is_in set z)) y (omega (arith, length-tabulate n (λ z. one (is_in set z)) 0)) in
      ap (λ (v : ℕ). one (ltb 0 v)) e ∙ ap one (in_one (is_in set y)) ∙ sym e

  -- bytes 0 and 1 are their own, whatever stands behind them
  pub flags-same : (set front : List ℕ) → length front ≡ n → Bytes front → take n set ≡ front → flags n set ≡ front
  unfolding flags
  flags-same set front long b e =
      let f : ℕ → ℕ = λ y. one (is_in set y) in
      ext_get_or 0 (tabulate n f 0) front (length-tabulate n f 0 ∙ sym long)
      (λ y l.
      let k : y < n = omega (arith, length-tabulate n f 0) in
      let v : get_or set y 0 ≡ get_or front y 0 = sym (get_or-take n set y 0 k) ∙ ap (λ (x : List ℕ). get_or x y 0) e in
      table_at n f y k ∙ ap (λ (x : ℕ). one (ltb 0 x)) v ∙ b y (omega arith))

-- ---- two calls

module _ (n : ℕ) (ts : List ℕ) where
  pub over-append : (l k set : List ℕ) → stepped_over n ts (l ++ k) set ≡ stepped_over n ts k (stepped_over n ts l set)
  unfolding stepped_over
  over-append [] k set = refl
  over-append (a ∷ l) k set = over-append l k (stepped n ts a set)

  pub reached-length : (l set : List ℕ) → length (reached n ts l set) ≡ n
  unfolding reached
  reached-length l set = over-length n ts l (flags n set) (flags-length n set)

  pub reached-bytes : (l set : List ℕ) → Bytes (reached n ts l set)
  unfolding reached
  reached-bytes l set = over-bytes n ts l (flags n set) (flags-bytes n set)

  -- what a call leaves is what the next one takes, with any bytes behind it
  taken-on : (l set rest : List ℕ) → flags n (reached n ts l set ++ rest) ≡ reached n ts l set
  taken-on l set rest =
      flags-same n (reached n ts l set ++ rest) (reached n ts l set) (reached-length l set) (reached-bytes l set) (take_at (reached n ts l set) rest n (reached-length l set))

  -- "two calls leave what one call over both parts leaves"
  pub cut-anywhere : (l k set rest : List ℕ) → reached n ts k (reached n ts l set ++ rest) ≡ reached n ts (l ++ k) set
  unfolding reached
  cut-anywhere l k set rest = ap (stepped_over n ts k) (taken-on l set rest) ∙ sym (over-append l k (flags n set))

  -- and they count as it does: where the first left some, the letters of both add up; where it left none, the first alone tells
  over-emptied : (l k set : List ℕ) → length set ≡ n → (members_of n (stepped_over n ts l set) ≡ 0 → ⊥)
      → emptied_after n ts (l ++ k) set ≡ length l + emptied_after n ts k (stepped_over n ts l set)
  unfolding stepped_over emptied_after
  over-emptied [] k set e h = omega arith
  over-emptied (a ∷ l) k set e h =
      by_cases (ℕ_discrete (members_of n set) 0)
      (λ z. absurd (h (ap (members_of n) (stays-empty n ts set e z (a ∷ l)) ∙ z)))
      (λ d. rw (ne_eqb (members_of n set) 0 d) (omega (arith, over-emptied l k (stepped n ts a set) (stepped-length n ts a set) h)))

  emptied-before : (l k set : List ℕ) → members_of n (stepped_over n ts l set) ≡ 0 → emptied_after n ts (l ++ k) set ≡ emptied_after n ts l set
  unfolding stepped_over emptied_after
  emptied-before [] k set e = emptied-none n ts k set e
  emptied-before (a ∷ l) k set e = ap (λ (x : ℕ). cond (eqb (members_of n set) 0) 0 (suc x)) (emptied-before l k (stepped n ts a set) e)

  pub cut-counts : (l k set rest : List ℕ) → (members_of n (reached n ts l set) ≡ 0 → ⊥)
      → emptied_after n ts (l ++ k) (flags n set) ≡ length l + emptied_after n ts k (flags n (reached n ts l set ++ rest))
  unfolding reached
  cut-counts l k set rest h = over-emptied l k (flags n set) (flags-length n set) h ∙ ap (λ (x : List ℕ). length l + emptied_after n ts k x) (sym (taken-on l set rest))

  pub cut-counts-none : (l k set : List ℕ) → members_of n (reached n ts l set) ≡ 0 → emptied_after n ts (l ++ k) (flags n set) ≡ emptied_after n ts l (flags n set)
  unfolding reached
  cut-counts-none l k set e = emptied-before l k (flags n set) e

-- ---- "after how many letters none was left for the first time"

-- before k letters some were left, and after k none was, unless these are all
pub record FirstEmpty (n : ℕ) (ts letters set : List ℕ) (k : ℕ) : Type 0 where
  pub within : k ≤ length letters
  pub some-before : (j : ℕ) → j < k → 0 < members_of n (stepped_over n ts (take j letters) set)
  pub none_then : k < length letters → members_of n (stepped_over n ts (take k letters) set) ≡ 0

module _ (n : ℕ) (ts : List ℕ) where
  empty-now : (letters set : List ℕ) → members_of n set ≡ 0 → FirstEmpty n ts letters set 0
  unfolding stepped_over
  empty-now letters set e = record { within = omega arith; some-before = λ j l. absurd (omega arith); none_then = λ l. e }

  empty-later : (a k : ℕ) (l set : List ℕ) → (members_of n set ≡ 0 → ⊥) → FirstEmpty n ts l (stepped n ts a set) k → FirstEmpty n ts (a ∷ l) set (suc k)
  unfolding stepped_over
  empty-later a k l set d h = record { within = omega (arith, h.within); some-before = some; none_then = λ m. h.none_then (omega arith) }
    where
      some : (j : ℕ) → j < suc k → 0 < members_of n (stepped_over n ts (take j (a ∷ l)) set)
      some zero m = omega (arith, d)
      some (suc j) m = h.some-before j (omega arith)

  pub first-empty : (letters set : List ℕ) → FirstEmpty n ts letters set (emptied_after n ts letters set)
  unfolding emptied_after
  first-empty [] set = record { within = omega arith; some-before = λ j l. absurd (omega arith); none_then = λ l. absurd (omega arith) }
  first-empty (a ∷ l) set =
      by_cases (ℕ_discrete (members_of n set) 0)
      (λ e. rw (eq-eqb (members_of n set) 0 e) (empty-now (a ∷ l) set e))
      (λ d. rw (ne_eqb (members_of n set) 0 d) (empty-later a (emptied_after n ts l (stepped n ts a set)) l set d (first-empty l (stepped n ts a set))))
