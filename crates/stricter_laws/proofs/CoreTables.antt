-- The cores of a built table, from any start condition.
use mathlib.Core.Path.{◌≡◌, refl, sym, ◌∙◌, ap}
use mathlib.Core.Bool.{true, false}
use mathlib.Core.List.{List, Memᴰ}
use Prim.Native.Nat.{ℕ, suc, ◌+◌, ◌-◌, ◌*◌, ◌≤◌, ◌<◌}
use native.Mathlib.Omega.{arith}
use lib.ListN.{length, get_or}
use borrow.Author.Tests.{eqb-false}
use Rattle.sets.specs.Tests.{Set, one}
use Rattle.sets.proofs.Lists.{place_of}
use Rattle.theory.specs.Automaton.{Automaton, automaton}
use Rattle.theory.specs.Layered.{Layered}
use Rattle.theory.specs.Code.{component_in, classes_in}
use Rattle.theory.specs.Macrostate.{is_accepting_lem, Macrostate, Goes, goes_to}
use Rattle.theory.specs.Passing.{Passing}
use Rattle.theory.specs.Rule.{Rule}
use Rattle.theory.specs.Run.{source_of, letter_of_lem, target_of}
use Rattle.theory.specs.Table.{Transition}
use Rattle.theory.specs.TableComputed.{macrostates_from, transitions_from}
use Rattle.theory_laws.proofs.Layers.{layered, few-in-all}
use Rattle.theory_laws.proofs.Tables.{few_states, reachable-iff, transition-iff}
use Rattle.spare_spec.specs.Spare.{EarlierIn, Steps, SameCore}
use Rattle.spare_spec.specs.SpareComputed.{spares}
use Rattle.stricter_laws.proofs.Again.{above-one, accepts-iff}
use Rattle.stricter_laws.proofs.Along.{same_self, earlier-same, code_after, after-core, after-macrostate, after-goes}
use Rattle.stricter_laws.proofs.Steps.{classes_at, size_of, classes-size, spares-iff}
use Rattle.stricter_laws.proofs.OneParent.{reachable-at, macrostate-at, listed, source-of, letter-of, target-of}
use Rattle.stricter_laws.proofs.OneParent.{letter-low, table-inside}
use Rattle.build_step_back.proofs.Codes.{pair-low}
use Rattle.stricter_spec.specs.Tags.{core_in, first_of, spares_at}
use Rattle.stricter_spec.specs.Tables.{CoreTable}
use Rattle.stricter_laws.proofs.First.{first-within, first-first, first-same, first_alike}
use Rattle.stricter_laws.proofs.CoreCodes.{core-same, same-core, spares-core}

-- ---- one step

-- how many steps more can spare K before k is 0: one for each state of K but for the classes above k
unfoldable left_for : Automaton → ℕ → ℕ
left_for A c = size_of A (component_in c) - (classes_at A c (component_in c) - classes_in c)

module _ {A : Automaton} (H : Layered A) {c a d : ℕ} (G : Goes A c a d) where
  step-nears : Macrostate A d → (classes_in c ≡ 0 → ⊥) → (classes_in d ≡ 0 → ⊥) → left_for A d + one (spares A a c d (component_in c)) ≤ left_for A c
  unfolding left_for
  step-nears M z y =
      let h = above-one H G z y in
      let s = classes-size d M.core (component_in c) in
      rw (G.stays z) (omega arith)

not-accepting : (c : ℕ) → is_accepting_lem c ≡ false → classes_in c ≡ 0 → ⊥
unfolding is_accepting_lem
not-accepting c e = eqb-false (classes_in c) 0 e

-- ---- the table

module _ {r : Rule} (P : Passing r) (start : Set) (room : length (macrostates_from r start) ≤ 65536) where
  abbrev A : Automaton
  A = automaton r

  abbrev codes : List ℕ
  codes = macrostates_from r start

  abbrev moves : List ℕ
  moves = transitions_from r start

  abbrev code : ℕ → ℕ
  code i = get_or codes i 0

  -- a table has at most eight components
  pub few-parts : A.components ≤ 8
  unfolding automaton
  few-parts = few-in-all r P

  few : A.components ≤ 16
  few = let h = few-parts in omega arith

  macrostate : (i : ℕ) → i < length codes → Macrostate A (code i)
  macrostate = macrostate-at P start room

  source-low : {t : ℕ} → Memᴰ t moves → source_of t < length codes
  source-low m = (table-inside P start room).sources _ m

  target-low : {t : ℕ} → Memᴰ t moves → target_of t < length codes
  target-low m = (table-inside P start room).targets _ m

  -- a transition is a step
  pub goes : {t : ℕ} → Memᴰ t moves → Goes A (code (source_of t)) (letter_of_lem t) (code (target_of t))
  goes {t = t} m =
      let T = listed P start room m in
      rw (source-of P start room T, letter-of P start room T, target-of P start room T) T.steps

  -- numbers with the same first have the same core
  same : (i j : ℕ) → i < length codes → j < length codes → first_of codes i ≡ first_of codes j → SameCore A (code i) (code j)
  same i j l m e = core-same (few_states r P) (code i) (code j) (first_alike codes i j l m e)

  -- x goes over a to y: from i, of the core of x, a step goes to the core of y
  module _ (i a x y : ℕ) (l : i < length codes) (b : a < r.s) (n : y < length codes)
      (s : SameCore A (code x) (code i)) (G : Goes A (code x) a (code y)) where
    earlier : EarlierIn A a (code i) (code y) G.level
    earlier = earlier-same a G.level s (same_self (code y)) G.earlier

    abbrev after : ℕ
    after = code_after A (code y) G.level (code i)

    known : component_in (code i) < A.components
    known = (macrostate i l).component

    made : Macrostate A after
    made = after-macrostate (layered r P) (few_states r P) few a (code i) (code y) G.level earlier known (macrostate y n).core

    step : Goes A (code i) a after
    step = after-goes (layered r P) (few_states r P) few a (code i) (code y) G.level earlier known

    alike-after : core_in (code y) ≡ core_in after
    alike-after = same-core (macrostate y n).coded made.coded
        (after-core (layered r P) (few_states r P) few a (code i) (code y) G.level earlier known)

    place : (z : ℕ) × (z < length codes) × (code z ≡ after)
    place = place_of codes after ((reachable-iff r P start after).1 (goes_to a (reachable-at P start room i l) b made step))

    lifted : (u : ℕ) × Memᴰ u moves × (source_of u ≡ i) × (letter_of_lem u ≡ a) × (first_of codes (target_of u) ≡ first_of codes y)
    lifted =
        let (z, k, e) = place in
        let t = i * 16777216 + a * 65536 + z in
        let U : Transition A r.s codes t =
        record { source = i; letter = a; target = z; source_listed = l; letter_known = b; target_listed = k; packed = refl; steps = rw e step } in
        let onto = ap (first_of codes) (target-of P start room U) ∙ first-same codes z y (ap core_in e ∙ sym alike-after) in
        (t, (transition-iff r P start room t).1 U, source-of P start room U, letter-of P start room U, onto)

  lifts : (t i : ℕ) → Memᴰ t moves → i < length codes → first_of codes i ≡ first_of codes (source_of t)
      → (u : ℕ) × Memᴰ u moves × (source_of u ≡ i) × (letter_of_lem u ≡ letter_of_lem t)
      × (first_of codes (target_of u) ≡ first_of codes (target_of t))
  lifts t i m l e =
      lifted i (letter_of_lem t) (source_of t) (target_of t) l (letter-low P start room m) (target-low m)
      (same (source_of t) i (source-low m) l (sym e)) (goes m)

  alike : (t u K : ℕ) → Memᴰ t moves → Memᴰ u moves → letter_of_lem t ≡ letter_of_lem u
      → first_of codes (source_of t) ≡ first_of codes (source_of u) → first_of codes (target_of t) ≡ first_of codes (target_of u)
      → spares_at A codes t K ≡ spares_at A codes u K
  unfolding spares_at
  alike t u K m n a e f =
      spares-core (letter_of_lem t) K
      (same (source_of t) (source_of u) (source-low m) (source-low n) e) (same (target_of t) (target_of u) (target-low m) (target-low n) f)
      ∙ ap (λ (x : ℕ). spares A x (code (source_of u)) (code (target_of u)) K) a

  nears : (t : ℕ) → Memᴰ t moves → is_accepting_lem (code (source_of t)) ≡ false → is_accepting_lem (code (target_of t)) ≡ false
      → (component_in (code (target_of t)) ≡ component_in (code (source_of t)))
      × (left_for A (code (target_of t)) + one (spares_at A codes t (component_in (code (source_of t)))) ≤ left_for A (code (source_of t)))
  unfolding spares_at
  nears t m e f =
      let G = goes m in
      let z = not-accepting (code (source_of t)) e in
      (G.stays z, step-nears (layered r P) G (macrostate (target_of t) (target-low m)) z (not-accepting (code (target_of t)) f))

  -- along transitions each of which goes on where the one before ends
  module _ (t : ℕ → ℕ) (m : (i : ℕ) → Memᴰ (t i) moves) (on : (i : ℕ) → target_of (t i) ≡ source_of (t (suc i))) where
    run : Steps A (λ i. letter_of_lem (t i)) (λ i. code (source_of (t i)))
    run = record { macrostate = λ i. macrostate (source_of (t i)) (source-low (m i)); steps = λ i. rw (← on i) (goes (m i)) }

    again : ((i : ℕ) → (j : ℕ) × (i < j) × (is_accepting_lem (code (source_of (t j))) ≡ true))
        → (K : ℕ) → K < A.components → (i : ℕ) → (j : ℕ) × (i ≤ j) × (spares_at A codes (t j) K ≡ true)
    unfolding spares_at
    again h K b i =
        let (j, l, s) = (accepts-iff (layered r P) run).0 h K b i in
        let G = run.steps j in (
          j,
          l,
          rw (on j) ((spares-iff (layered r P) (letter_of_lem (t j)) (code (source_of (t j))) (code (source_of (t (suc j)))) G.level G.earlier K).1 s),
        )

  -- ---- the bits that are free for tags

  -- codes have 48 bits
  pub codes-low : (i : ℕ) → i < length codes → get_or codes i 0 < 281474976710656
  codes-low i l = omega (arith, pair-low A (code i) (macrostate i l).coded)

  -- transitions have 40
  pub moves-low : (t : ℕ) → Memᴰ t moves → t < 1099511627776
  moves-low t m = let h = source-low m in omega arith

  -- ---- all of it

  pub core-table : CoreTable codes moves A.components (first_of codes) (spares_at A codes)
  core-table = record {
    few = room;
    inside = table-inside P start room;
    within = first-within codes;
    stands = first-first codes;
    lifts = lifts;
    alike = λ t u K m n a e f b. alike t u K m n a e f;
    component = λ i. component_in (code i);
    known = λ i l. (macrostate i l).component;
    left = λ i. left_for A (code i);
    nears = nears;
    again = again;
  }
