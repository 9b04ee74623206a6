-- A run that goes through a first part and then through a loop for ever is accepting if a computed test of both parts holds.
use mathlib.Core.Path.{◌≡◌, refl, ◌∙◌, ap}
use mathlib.Core.Logic.{by_cases}
use mathlib.Core.Bool.{Bool, true, ◌&&◌}
use mathlib.Core.List.{List, [], ◌∷◌, Memᴰ}
use Prim.Native.Nat.{ℕ, zero, suc, ◌+◌, ◌<◌}
use native.Mathlib.Omega.{arith}
use native.Mathlib.Decide.{ℕ_discrete}
use native.Mathlib.Nat.{zero-add, suc-add}
use lib.Dec.{eqb, ltb}
use lib.ListN.{length, get_or}
use borrow.Author.Tests.{eqb-true, ltb-true}
use Rattle.sets.specs.Tests.{Set, every, some_below}
use Rattle.sets.specs.Lists.{any_of}
use Rattle.sets.proofs.Bools.{and_l, and_r}
use Rattle.sets.proofs.Lists.{any_out}
use Rattle.sets.proofs.Tests.{every-at, some-get}
use Rattle.theory.specs.Word.{next_place_lem, letter_at_lem, place, letters}
use Rattle.theory.specs.Macrostate.{begun, is_accepting_lem}
use Rattle.theory.specs.Run.{source_of, letter_of_lem, target_of, Leads, AcceptingRun}
use Rattle.cases_starred.specs.Claim.{through}

-- ---- all of a list of tests

unfoldable pub conj : List Bool → Bool
conj [] = true
conj (b ∷ bs) = b && conj bs

pub conj-at : (bs : List Bool) → conj bs ≡ true → (i : ℕ) → get_or bs i true ≡ true
unfolding conj
conj-at [] e i = refl
conj-at (b ∷ bs) e zero = and_l b (conj bs) e
conj-at (b ∷ bs) e (suc i) = conj-at bs (and_r b (conj bs) e) i

-- ---- two walks in step: what follows an earlier pair of places repeats it

module _ (f g : ℕ → ℕ) where
  -- the pair of places at step i is the one at step j
  record Alike (i j : ℕ) : Type 0 where
    left : place f i ≡ place f j
    right : place g i ≡ place g j

  next-alike : (i j : ℕ) → Alike i j → Alike (suc i) (suc j)
  next-alike i j h = unfold place in record { left = ap f h.left; right = ap g h.right }

  join : (i j k : ℕ) → Alike i j → Alike j k → Alike i k
  join i j k h l = record { left = h.left ∙ l.left; right = h.right ∙ l.right }

  ahead : (k i j : ℕ) → Alike i j → Alike (k + i) (k + j)
  ahead zero i j h = rw (zero-add i, zero-add j) h
  ahead (suc k) i j h = rw (suc-add k i, suc-add k j) (next-alike (k + i) (k + j) (ahead k i j h))

  module _ (a m : ℕ) (there : 0 < m) (back : Alike (m + a) a) where
    -- every step is like one of the first
    early : (i : ℕ) → (j : ℕ) × (j < m + a) × Alike i j
    early zero = (0, omega arith, record { left = refl; right = refl })
    early (suc i) =
        let (j, l, h) = early i in
        by_cases (ℕ_discrete (suc j) (m + a))
        (λ e. (a, omega arith, join (suc i) (suc j) a (next-alike i j h) (rw e back)))
        (λ e. (suc j, omega arith, next-alike i j h))

    -- each step of the loop comes again after every step
    returns : (d i : ℕ) → (j : ℕ) × (i < j) × Alike j (d + a)
    returns d zero = (d + (m + a), omega arith, ahead d (m + a) a back)
    returns d (suc i) =
        let (j, l, h) = returns d i in
        let e : m + (d + a) ≡ d + (m + a) = omega arith in
        (m + j, omega arith, join (m + j) (d + (m + a)) (d + a) (rw e at (ahead m j (d + a) h)) (ahead d (m + a) a back))

-- ---- the run

module _ (codes moves : List ℕ) (start : Set) (lead cycle first loop : List ℕ) where
  abbrev number : ℕ → ℕ
  number = through first loop

  abbrev letter : ℕ → ℕ
  letter = letters lead cycle

  abbrev begin : ℕ
  begin = length first

  abbrev end : ℕ
  end = length loop + length first

  -- the transition t leads from the number at step i to the next
  abbrev leads : ℕ → ℕ → Bool
  leads i t = conj (eqb (source_of t) (number i) ∷ eqb (letter_of_lem t) (letter i) ∷ eqb (target_of t) (number (suc i)) ∷ [])

  abbrev accepting : ℕ → Bool
  accepting d = is_accepting_lem (get_or codes (number (d + begin)) 0)

  abbrev tests : List Bool
  tests =
      ltb 0 (length loop)
      ∷ eqb (place (next_place_lem first loop) end) (place (next_place_lem first loop) begin)
      ∷ eqb (place (next_place_lem lead cycle) end) (place (next_place_lem lead cycle) begin)
      ∷ begun start (get_or codes (number 0) 0)
      ∷ every end (λ i. ltb (number i) (length codes))
      ∷ every end (λ i. any_of moves (leads i))
      ∷ some_below (length loop) accepting
      ∷ []

  -- The loop returns, to the same place of the word too; the first number is initial; the numbers are those of codes, each step is a listed transition
  -- over the letter there, and a number of the loop is accepting.
  unfoldable pub loops : Bool
  loops = conj tests

  module _ (e : loops ≡ true) where
    test : (i : ℕ) → get_or tests i true ≡ true
    test = unfold loops in conj-at tests e

    there : 0 < length loop
    there = ltb-true 0 (length loop) (test 0)

    back : Alike (next_place_lem first loop) (next_place_lem lead cycle) end begin
    back = record { left = eqb-true _ _ (test 1); right = eqb-true _ _ (test 2) }

    like : (i : ℕ) → (j : ℕ) × (j < end) × Alike (next_place_lem first loop) (next_place_lem lead cycle) i j
    like = early (next_place_lem first loop) (next_place_lem lead cycle) begin (length loop) there back

    same_number : (i j : ℕ) → Alike (next_place_lem first loop) (next_place_lem lead cycle) i j → number i ≡ number j
    same_number i j h = ap (letter_at_lem first loop) h.left

    same-letter : (i j : ℕ) → Alike (next_place_lem first loop) (next_place_lem lead cycle) i j → letter i ≡ letter j
    same-letter i j h = ap (letter_at_lem lead cycle) h.right

    leads-of : (i t : ℕ) → leads i t ≡ true → Leads t (number i) (letter i) (number (suc i))
    leads-of i t h =
        let l = conj-at (eqb (source_of t) (number i) ∷ eqb (letter_of_lem t) (letter i) ∷ eqb (target_of t) (number (suc i)) ∷ []) h in
        record { source = eqb-true _ _ (l 0); letter = eqb-true _ _ (l 1); target = eqb-true _ _ (l 2) }

    step : (i : ℕ) → (t : ℕ) × Memᴰ t moves × Leads t (number i) (letter i) (number (suc i))
    step i =
        let (j, l, h) = like i in
        let (t, m, k) = any_out moves (leads j) (every-at end (λ i. any_of moves (leads i)) (test 5) j l) in
        (t, m, rw (same_number i j h, same-letter i j h, same_number (suc i) (suc j) (next-alike _ _ i j h)) (leads-of j t k))

    again : (i : ℕ) → (j : ℕ) × (i < j) × (is_accepting_lem (get_or codes (number j) 0) ≡ true)
    again i =
        let (d, l, k) = some-get (length loop) accepting (test 6) in
        let (j, m, h) = returns (next_place_lem first loop) (next_place_lem lead cycle) begin (length loop) there back d i in
        (j, m, rw (same_number j (d + begin) h) k)

    pub loop-accepts : AcceptingRun codes moves start letter number
    loop-accepts = record {
      run = record {
        within = λ i. let (j, l, h) = like i in rw (same_number i j h) (ltb-true _ _ (every-at end (λ i. ltb (number i) (length codes)) (test 4) j l));
        begins = test 3;
        moves = step;
      };
      again = again;
    }
