-- A free breakpoint set has two runs: 01's trap "A free breakpoint set of states in place of k rank classes: 000 shows two accepting runs."
-- Definition 2 of 000, and the rule of its Figure 1 from state q on.
use mathlib.Core.Path.{◌≡◌, refl, ap}
use mathlib.Core.Logic.{◌⊎◌, inl, inr}
use mathlib.Core.Bool.{Bool, true, ◌&&◌, ◌||◌, not}
use mathlib.Core.List.{[], ◌∷◌}
use Prim.Native.Nat.{ℕ, zero, suc, ◌<◌}
use native.Mathlib.Omega.{arith}
use Rattle.sets.specs.Lists.{any_of, sum}
use Rattle.sets.specs.Masks.{bit, mask, inside}
use Rattle.sets.specs.Tests.{every}
use Rattle.theory.specs.Automaton.{automaton}
use Rattle.theory.specs.Components.{mixed}
use Rattle.theory.specs.Passing.{Passing}
use Rattle.theory.specs.Rule.{Rule, entry, satisfies}
use Rattle.theory.specs.CodeRuns.{CodeRun}
use Rattle.theory_laws.proofs.Codes.{code-unique}
use Rattle.theory_laws.proofs.Components.{passing-by}
use Rattle.theory_laws.proofs.Layers.{layered}

-- ---- Definition 2 of 000, sets of states as masks

-- "The macrostate of B is encoded as a consistent tuple (Q1, Q2, Q3, Q4)": Q3 and Q4 are the breakpoint sets
pub record Tuple : Type 0 where
  pub one : ℕ
  pub two : ℕ
  pub three : ℕ
  pub four : ℕ

module _ (r : Rule) where
  -- all states of X have entries at the letter a that Y satisfies
  unfoldable pub satisfied : ℕ → ℕ → ℕ → Bool
  satisfied a X Y = every r.n (λ q. not (bit X q) || satisfies r.n (bit Y) (entry r q a))

  -- all states of X have entries at the letter a that Y satisfies in the dual rule: the states outside Y do not satisfy them
  unfoldable pub dually : ℕ → ℕ → ℕ → Bool
  dually a X Y = every r.n (λ q. not (bit X q) || not (satisfies r.n (λ p. not (bit Y p)) (entry r q a)))

  -- the rejecting states of X, and the accepting ones, which the dual rule rejects
  unfoldable pub rejecting_in : ℕ → ℕ
  rejecting_in X = mask r.n (λ q. bit X q && not (bit r.accepting q))

  unfoldable pub accepting_in : ℕ → ℕ
  accepting_in X = mask r.n (λ q. bit X q && bit r.accepting q)

  -- "Q2 = Q \ Q1, Q3 ⊆ Q1 \ F, and Q4 ⊆ Q2 \ F^"
  pub record Consistent (m : Tuple) : Type 0 where
    pub others : m.two ≡ mask r.n (λ q. not (bit m.one q))
    pub below_one : inside r.n (bit (rejecting_in m.one)) m.three ≡ true
    pub below_two : inside r.n (bit (accepting_in m.two)) m.four ≡ true

  -- "Q3 = Q4 = ∅, Q'3 = Q'1 \ F and Q'4 = Q'2 \ F^"
  pub record Reset (m k : Tuple) : Type 0 where
    pub empty : (m.three ≡ 0) × (m.four ≡ 0)
    pub three-is : k.three ≡ rejecting_in k.one
    pub four_is : k.four ≡ accepting_in k.two

  -- "Q3 ≠ ∅ or Q4 ≠ ∅, there exists Y3 ⊆ Q'1 such that Y3 ⊨ .. and Q'3 = Y3 \ F, and there exists Y4 ⊆ Q'2 such that .."
  pub record Onward (a : ℕ) (m k : Tuple) : Type 0 where
    pub some : (m.three ≡ 0) × (m.four ≡ 0) → ⊥
    pub y3 : ℕ
    pub y4 : ℕ
    pub y3-below : inside r.n (bit k.one) y3 ≡ true
    pub y4-below : inside r.n (bit k.two) y4 ≡ true
    pub y3-satisfies : satisfied a m.three y3 ≡ true
    pub y4-satisfies : dually a m.four y4 ≡ true
    pub three-is : k.three ≡ rejecting_in y3
    pub four_is : k.four ≡ accepting_in y4

  -- "if Q'1 ⊨ .. and Q'2 ⊨ .. and either"
  pub record FreeStep (a : ℕ) (m k : Tuple) : Type 0 where
    pub sets : satisfied a m.one k.one ≡ true
    pub duals : dually a m.two k.two ≡ true
    pub breakpoints : Reset m k ⊎ Onward a m k

  -- a run over the letters w; it accepts if again and again "Q3 = Q4 = ∅"
  pub record FreeRun (w : ℕ → ℕ) (x : ℕ → Tuple) : Type 0 where
    pub consistent : (i : ℕ) → Consistent (x i)
    pub begins : bit (x 0).one r.initial ≡ true
    pub steps : (i : ℕ) → FreeStep (w i) (x i) (x (suc i))
    pub again : (i : ℕ) → (j : ℕ) × (i < j) × ((x j).three ≡ 0) × ((x j).four ≡ 0)

-- ---- Figure 1: letters a, b are 0, 1; states q, s, t, r are 0, 1, 2, 3. q goes to s or to t, s to r over b, t to r over a, both to q over the other letter; r stays and accepts

abbrev pub G : Rule
G = record {
  n = 4;
  s = 2;
  initial = 0;
  accepting = 8;
  counts = 2 ∷ 2 ∷ 1 ∷ 1 ∷ 1 ∷ 1 ∷ 1 ∷ 1 ∷ [];
  clauses = 2 ∷ 4 ∷ 2 ∷ 4 ∷ 1 ∷ 8 ∷ 8 ∷ 1 ∷ 8 ∷ 8 ∷ [];
}

-- every state is true over b b b ..; the breakpoint set goes on alone
abbrev at : ℕ → Tuple
at b = record { one = 15; two = 0; three = b; four = 0 }

consistent-at : (b : ℕ) → inside 4 (bit (rejecting_in G 15)) b ≡ true → Consistent G (at b)
unfolding inside every bit mask rejecting_in accepting_in
consistent-at b e = record { others = refl; below_one = e; below_two = refl }

-- from the empty set to all of q, s, t
reset : FreeStep G 1 (at 0) (at 7)
unfolding satisfied dually satisfies entry sum inside every bit mask rejecting_in accepting_in
reset = record { sets = refl; duals = refl; breakpoints = inl (record { empty = (refl, refl); three-is = refl; four_is = refl }) }

-- from a set that is not empty, by Y3
onward : (b c y : ℕ) → (b ≡ 0 → ⊥) → inside 4 (bit 15) y ≡ true → satisfied G 1 b y ≡ true → c ≡ rejecting_in G y → FreeStep G 1 (at b) (at c)
unfolding satisfied dually satisfies entry sum inside every bit mask rejecting_in accepting_in
onward b c y some below satisfies is = record {
  sets = refl;
  duals = refl;
  breakpoints = inr (record {
    some = λ e. some e.0;
    y3 = y;
    y4 = 0;
    y3-below = below;
    y4-below = refl;
    y3-satisfies = satisfies;
    y4-satisfies = refl;
    three-is = is;
    four_is = refl;
  });
}

-- {q, s, t} to {q, s}, which q goes on with s for; {q, s} to {s}; {s} to the empty set
all-to-qs : FreeStep G 1 (at 7) (at 3)
unfolding satisfied satisfies entry sum inside every bit mask rejecting_in
all-to-qs = onward 7 3 11 (λ e. omega arith) refl refl refl

qs-to-s : FreeStep G 1 (at 3) (at 2)
unfolding satisfied satisfies entry sum inside every bit mask rejecting_in
qs-to-s = onward 3 2 10 (λ e. omega arith) refl refl refl

s-to-none : FreeStep G 1 (at 2) (at 0)
unfolding satisfied satisfies entry sum inside every bit mask rejecting_in
s-to-none = onward 2 0 8 (λ e. omega arith) refl refl refl

-- or {q, s, t} to {q, t}, which q goes on with t for; {q, t} to {q, s}
all-to-qt : FreeStep G 1 (at 7) (at 5)
unfolding satisfied satisfies entry sum inside every bit mask rejecting_in
all-to-qt = onward 7 5 13 (λ e. omega arith) refl refl refl

qt-to-qs : FreeStep G 1 (at 5) (at 3)
unfolding satisfied satisfies entry sum inside every bit mask rejecting_in
qt-to-qs = onward 5 3 3 (λ e. omega arith) refl refl refl

-- ---- two accepting runs over b b b ..

abbrev shorter : ℕ → ℕ
shorter zero = 0
shorter (suc zero) = 7
shorter (suc (suc zero)) = 3
shorter (suc (suc (suc zero))) = 2
shorter (suc (suc (suc (suc i)))) = shorter i

abbrev longer : ℕ → ℕ
longer zero = 0
longer (suc zero) = 7
longer (suc (suc zero)) = 5
longer (suc (suc (suc zero))) = 3
longer (suc (suc (suc (suc zero)))) = 2
longer (suc (suc (suc (suc (suc i))))) = longer i

shorter-steps : (i : ℕ) → Consistent G (at (shorter i)) × FreeStep G 1 (at (shorter i)) (at (shorter (suc i)))
unfolding inside every bit mask rejecting_in
shorter-steps zero = (consistent-at 0 refl, reset)
shorter-steps (suc zero) = (consistent-at 7 refl, all-to-qs)
shorter-steps (suc (suc zero)) = (consistent-at 3 refl, qs-to-s)
shorter-steps (suc (suc (suc zero))) = (consistent-at 2 refl, s-to-none)
shorter-steps (suc (suc (suc (suc i)))) = shorter-steps i

longer-steps : (i : ℕ) → Consistent G (at (longer i)) × FreeStep G 1 (at (longer i)) (at (longer (suc i)))
unfolding inside every bit mask rejecting_in
longer-steps zero = (consistent-at 0 refl, reset)
longer-steps (suc zero) = (consistent-at 7 refl, all-to-qt)
longer-steps (suc (suc zero)) = (consistent-at 5 refl, qt-to-qs)
longer-steps (suc (suc (suc zero))) = (consistent-at 3 refl, qs-to-s)
longer-steps (suc (suc (suc (suc zero)))) = (consistent-at 2 refl, s-to-none)
longer-steps (suc (suc (suc (suc (suc i))))) = longer-steps i

shorter-again : (i : ℕ) → (j : ℕ) × (i < j) × (shorter j ≡ 0)
shorter-again zero = (4, omega arith, refl)
shorter-again (suc i) = let (j, l, e) = shorter-again i in (suc (suc (suc (suc j))), omega arith, e)

longer-again : (i : ℕ) → (j : ℕ) × (i < j) × (longer j ≡ 0)
longer-again zero = (5, omega arith, refl)
longer-again (suc i) = let (j, l, e) = longer-again i in (suc (suc (suc (suc (suc j)))), omega arith, e)

abbrev bees : ℕ → ℕ
bees i = 1

initial-q : bit 15 0 ≡ true
unfolding bit
initial-q = refl

pub shorter-accepts : FreeRun G bees (λ i. at (shorter i))
shorter-accepts = record {
  consistent = λ i. (shorter-steps i).0;
  begins = initial-q;
  steps = λ i. (shorter-steps i).1;
  again = λ i. let (j, l, e) = shorter-again i in (j, l, e, refl);
}

pub longer-accepts : FreeRun G bees (λ i. at (longer i))
longer-accepts = record {
  consistent = λ i. (longer-steps i).0;
  begins = initial-q;
  steps = λ i. (longer-steps i).1;
  again = λ i. let (j, l, e) = longer-again i in (j, l, e, refl);
}

-- Lemma 4 of 000: they differ at step 2
pub free-breakpoint-two-runs : ((w : ℕ → ℕ) (x y : ℕ → Tuple) → FreeRun G w x → FreeRun G w y → (i : ℕ) → x i ≡ y i) → ⊥
free-breakpoint-two-runs claim = let e : ◌≡◌ {A = ℕ} 3 5 = ap (λ (m : Tuple). m.three) (claim bees (λ i. at (shorter i)) (λ i. at (longer i)) shorter-accepts longer-accepts 2) in omega arith

-- ---- with k rank classes the same rule has one run

passing-G : Passing G
unfolding any_of sum mixed
passing-G = passing-by G (omega arith) (omega arith) (omega arith) (omega arith) (omega arith) (omega arith) refl refl refl refl refl

pub k-one-run : (w c d : ℕ → ℕ) → CodeRun (automaton G) w c → CodeRun (automaton G) w d → (i : ℕ) → c i ≡ d i
k-one-run = code-unique (automaton G) (layered G passing-G)
