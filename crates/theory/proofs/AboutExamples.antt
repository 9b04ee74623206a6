-- What the definitions give for the examples: the lists of the build, evaluated, and the traps of 01.
use mathlib.Core.Path.{◌≡◌, refl, sym, ◌∙◌, ap}
use mathlib.Core.Logic.{by_cases}
use mathlib.Core.Bool.{true, false, true≢false, false≢true}
use mathlib.Core.List.Memᴰ
use mathlib.Core.List.{List, [], ◌∷◌, Memᴰ}
use Prim.Native.Nat.{ℕ, zero, suc, ◌+◌, ◌*◌, ◌^◌, ◌<◌}
use native.Mathlib.Omega.{arith}
use native.Mathlib.Decide.{ℕ_discrete}
use lib.ListN.{get_or}
use Rattle.sets.specs.Digits.{num}
use Rattle.sets.specs.Lists.{keep, among, any_of, sum, tabulate, flat, insert_ascending, sorted}
use Rattle.sets.specs.Masks.{bit, mask, inside}
use Rattle.sets.specs.Tests.{Set, every, some_below, count, first, largest}
use Rattle.theory.specs.Automaton.{automaton}
use Rattle.theory.specs.Code.{fields, pack, component_in, classes_in, set_in, rank_in, well_coded}
use Rattle.theory.specs.Components.{named, leads, within, reaches, together, smallest, is_smallest, component, components}
use Rattle.theory.specs.Core.{Least, is_open, Core, mix, rejecting_settled, accepting_settled, settled, settled_up_to, open_of_lem, next_component_lem}
use Rattle.theory.specs.CoreComputed.{level_of, taken, rank_of, is_core_lem}
use Rattle.theory.specs.Examples.{F, D, E, I, Z, X}
use Rattle.theory.specs.Macrostate.{begun, is_initial_lem, is_accepting_lem, Macrostate, Goes, begins}
use Rattle.theory.specs.MacrostateComputed.{before, onward, goes}
use Rattle.theory.specs.Plan.{here, AcceptsWord}
use Rattle.theory.specs.Rule.{entry, satisfies}
use Rattle.theory.specs.Table.{ListsReachable}
use Rattle.theory.specs.TableComputed.{reached_in, reached, digitals, candidates, cores, codes_from, transitions_of, macrostates_from, transitions_from, macrostates, transitions}
use Rattle.theory.specs.Word.{next_place_lem, letter_at_lem}

-- what an evaluation unfolds
unfoldable computed : ℕ
unfolding is_accepting_lem macrostates_from transitions_from transitions_of codes_from cores candidates digitals tabulate flat keep among any_of insert_ascending sorted reached_in reached well_coded pack fields
    mask num goes before onward begun automaton set_in rank_in component_in classes_in every satisfies inside bit rank_of level_of settled_up_to settled rejecting_settled accepting_settled mix is_open taken
    some_below count first largest open_of_lem next_component_lem is_core_lem component components is_smallest smallest together reaches within leads named entry sum
computed = 0

-- ---- single steps

-- after the last component comes component 0
pub next-of-last : next_component_lem (automaton I) 1 ≡ 0
unfolding computed
next-of-last = refl

-- from component 0 with k = 0 a step goes to component 1
pub step-I : goes (automaton I) 4099 1 1099511627777 ≡ true
unfolding computed
step-I = refl

-- component 1 is not initial
pub not-initial-I : is_initial_lem I 1099511631875 ≡ false
unfolding computed
not-initial-I = refl

-- ranks 2 1 in each of two components
pub step-X : goes (automaton X) 1184259 0 36283885887747 ≡ true
unfolding computed
step-X = refl

-- ---- the lists of 01's cases 1 to 4, and of I

pub macrostates-F : macrostates F ≡ (0 ∷ 257 ∷ 17592186044673 ∷ [])
unfolding computed
macrostates-F = refl

pub transitions-F : transitions F ≡ (0 ∷ 16777218 ∷ 16842752 ∷ 16842754 ∷ 33554434 ∷ 33619968 ∷ 33619969 ∷ [])
unfolding computed
transitions-F = refl

pub macrostates-D : macrostates D ≡ (0 ∷ 257 ∷ 4098 ∷ 4355 ∷ 4611 ∷ 8451 ∷ 17592186044673 ∷ 17592186048514 ∷ 17592186048771 ∷ 17592186049027 ∷ 17592186052867 ∷ 35184372093443 ∷ 35184372097283 ∷ [])
unfolding computed
macrostates-D = refl

pub transitions-D : transitions D ≡ (65536 ∷ 65543 ∷ 33554432 ∷ 33554438 ∷ 33619974 ∷ 33619976 ∷ 33619979 ∷ 33619980 ∷ 67108871 ∷ 67108872 ∷ 67108875 ∷ 67108876 ∷ 117440512 ∷ 117440513 ∷ 117506054
    ∷ 117506056 ∷ 117506058 ∷ 117506059 ∷ 150994946 ∷ 150994947 ∷ 150994948 ∷ 150994949 ∷ 184549383 ∷ 184549384 ∷ 184549385 ∷ 184549388 ∷ [])
unfolding computed
transitions-D = refl

pub macrostates-E : macrostates E ≡ (1 ∷ [])
unfolding computed
macrostates-E = refl

pub transitions-E : transitions E ≡ (0 ∷ [])
unfolding computed
transitions-E = refl

pub macrostates-Z : macrostates Z ≡ (1 ∷ [])
unfolding computed
macrostates-Z = refl

pub transitions-Z : transitions Z ≡ []
unfolding computed
transitions-Z = refl

pub macrostates-I : macrostates I ≡ (1 ∷ 4099 ∷ 1099511627777 ∷ 1099511631875 ∷ 18691697676291 ∷ [])
unfolding computed
macrostates-I = refl

pub transitions-I : transitions I ≡ (16777220 ∷ 16842754 ∷ 16842756 ∷ 50331649 ∷ 50397184 ∷ 50397185 ∷ 67108868 ∷ 67174402 ∷ 67174403 ∷ [])
unfolding computed
transitions-I = refl

-- the transitions of X between eleven of its 45 macrostates
pub transitions-X : transitions_of (automaton X) 1 (4623 ∷ 1184259 ∷ 1099511632143 ∷ 1099511632399 ∷ 1099511636239 ∷ 17592186048783 ∷ 35184372093455 ∷ 35184372097295 ∷ 36283884900867 ∷ 36283885883907
    ∷ 36283885887747 ∷ [])
    ≡ (2 ∷ 3 ∷ 4 ∷ 16777225 ∷ 16777226 ∷ 50331653 ∷ 50331654 ∷ 50331655 ∷ 100663301 ∷ 100663302 ∷ 100663303 ∷ 134217737 ∷ 134217738 ∷ 150994952 ∷ [])
unfolding computed
transitions-X = refl

-- ---- initial and accepting, read off the codes

pub initial-F : keep (is_initial_lem F) (macrostates F) ≡ (257 ∷ [])
unfolding computed
initial-F = refl

pub accepting-F : keep is_accepting_lem (macrostates F) ≡ (0 ∷ 257 ∷ [])
unfolding computed
accepting-F = refl

pub initial-D : keep (is_initial_lem D) (macrostates D) ≡ (257 ∷ 4355 ∷ 4611 ∷ 8451 ∷ [])
unfolding computed
initial-D = refl

pub initial-I : keep (is_initial_lem I) (macrostates I) ≡ (1 ∷ 4099 ∷ [])
unfolding computed
initial-I = refl

-- code 4611 has number 4
pub number-D : get_or (macrostates D) 4 0 ≡ 4611
unfolding computed
number-D = refl

-- ---- the traps

-- In D, over letter 0, from the core of code 4611 with k = 2 to the core of code 8451, k stays 2.
pub k_stays : goes (automaton D) (4611 + 2 * 2 ^ 44) 0 (8451 + 2 * 2 ^ 44) ≡ true
unfolding computed
k_stays = refl

pub k-falls-not : goes (automaton D) (4611 + 2 * 2 ^ 44) 0 (8451 + 1 * 2 ^ 44) ≡ false
unfolding computed
k-falls-not = refl

-- ---- the same of the definitions

level-is : (f : Set) (j l : ℕ) → f j ≡ true → ((i : ℕ) → i < j → f i ≡ false) → Least f l → l ≡ j
level-is f j l t none L = by_cases (ℕ_discrete l j) (λ e. e) (λ e. absurd (true≢false (sym L.holds ∙ none l (omega (arith, L.least j t)))))

below_two : (f : Set) → f 0 ≡ false → f 1 ≡ false → (i : ℕ) → i < 2 → f i ≡ false
below_two f x y zero l = x
below_two f x y (suc zero) l = y
below_two f x y (suc (suc i)) l = absurd (omega arith)

-- in D from 4611 with k = 2 over letter 0 to 8451, k does not become 1
pub k-not-less : Goes (automaton D) 35184372093443 0 17592186052867 → ⊥
unfolding computed
k-not-less G =
    let x : G.level 0 ≡ 2 = level-is _ 2 (G.level 0) refl (below_two _ refl refl) (G.earlier.level 0 (omega arith) refl) in
    let y : G.level 1 ≡ 0 = level-is _ 0 (G.level 1) refl (λ i l. absurd (omega arith)) (G.earlier.level 1 (omega arith) refl) in
    absurd (omega (arith, G.left (λ e. absurd (omega arith))))

-- and from 4611 with k = 1 to 4611 it does not stay 1: all of the class that is left is discharged
pub k-not-free : Goes (automaton D) 17592186049027 0 17592186049027 → ⊥
unfolding computed
k-not-free G =
    let y : G.level 1 ≡ 0 = level-is _ 0 (G.level 1) refl (λ i l. absurd (omega arith)) (G.earlier.level 1 (omega arith) refl) in
    absurd (omega (arith, G.left (λ e. absurd (omega arith))))

-- in F the empty set is not before itself over letter 1: it would have to hold state 0
pub membership-exact : Goes (automaton F) 0 1 0 → ⊥
unfolding computed
membership-exact G = let fact : set_in (automaton F) 0 0 ≡ true = G.earlier.exact 0 (omega arith) in absurd (false≢true fact)

-- in I component 0 with k = 0 is not followed by component 0
pub component-moves : Goes (automaton I) 4099 1 1 → ⊥
unfolding computed
component-moves G = let h = G.next refl in absurd (omega arith)

at_zero : (f : ℕ → ℕ) (p : ℕ) → p < 1 → f p ≡ f 0
at_zero f zero l = refl
at_zero f (suc p) l = absurd (omega arith)

-- rank 2 with no rank 1 is a gap
pub no_gap : Core (automaton F) (set_in (automaton F) 513) (rank_in (automaton F) 513) → ⊥
unfolding computed
no_gap C =
    let g = C.gapless 0 1 (omega arith) refl (omega arith) (omega arith) in
    absurd (omega (arith, sym (at_zero (rank_in (automaton F) 513) g.0 g.1) ∙ g.4))

-- ranks 1 and 2 in two components of I are not numbered separately
component-0 : (automaton I).component 0 ≡ 0
unfolding computed
component-0 = refl

component-1 : (automaton I).component 1 ≡ 1
unfolding computed
component-1 = refl

rank-1 : rank_in (automaton I) 8450 1 ≡ 2
unfolding computed
rank-1 = refl

states-I : (automaton I).n ≡ 2
unfolding computed
states-I = refl

open-1 : is_open (automaton I) (set_in (automaton I) 8450) 1 ≡ true
unfolding computed
open-1 = refl

pub ranks-separate : Core (automaton I) (set_in (automaton I) 8450) (rank_in (automaton I) 8450) → ⊥
ranks-separate C =
    let n = states-I in let r = rank-1 in
    let g = C.gapless 1 1 (omega arith) open-1 (omega arith) (omega arith) in
    let same = g.2 in let rank = g.4 in let below = g.1 in let one = component-1 in
    by_cases (ℕ_discrete g.0 0)
    (λ z. let zero-comp = ap (automaton I).component z ∙ component-0 in absurd (omega arith))
    (λ z. let p : g.0 ≡ 1 = omega arith in let two = ap (rank_in (automaton I) 8450) p ∙ rank-1 in absurd (omega arith))

-- the initial macrostate of F is among its reachable codes
pub initial-listed : (codes moves : List ℕ) → ListsReachable F codes moves → Macrostate (automaton F) 257 → Memᴰ 257 codes
unfolding computed
initial-listed codes moves L M = (L.codes_are 257).1 (begins M refl)

-- a step of F over letter 1 is among its transitions
pub step-listed : (moves : List ℕ) → ListsReachable F (0 ∷ 257 ∷ 17592186044673 ∷ []) moves → Goes (automaton F) 257 1 0 → Memᴰ 16842752 moves
unfolding computed
step-listed moves L G =
    (L.transitions_are 16842752).1 (record { source = 1; letter = 1; target = 0; source_listed = omega arith; letter_known = omega arith; target_listed = omega arith; packed = refl; steps = G })

-- the last place is followed by the cycle's first
pub cycle-first : next_place_lem (0 ∷ 1 ∷ []) (0 ∷ []) 2 ≡ 2
unfolding next_place_lem
cycle-first = refl

-- case 6: F does not accept letter 0 for ever, since the only plan has a rejecting state on a cycle
pub rejecting-cycle : AcceptsWord F [] (0 ∷ []) → ⊥
unfolding computed next_place_lem letter_at_lem
rejecting-cycle P =
    let e : P.pick 0 0 ≡ 1 = Memᴰ.eq_of_singleton (P.valid 0 0 here) in
    P.fair 0 0 here refl 0 (omega arith) (ap (λ (m : ℕ). bit m 0) e) here
